-- The asks of a file that was read: there is an answer's room for each, and its individuals go into a byte each.
use Rattle.std.specs.Prelude.{ℕ, ◌<◌, ◌≤◌, ◌≡◌, ◌/◌, List, length}
use Rattle.std.proofs.Common.{ap, ◌∙◌, sym, subst, arith}
use Rattle.kinds.specs.declared.Ask.{Ask}
use Rattle.kinds.specs.declared.Ask.TheVariants.{Pair, From}
use Rattle.kinds.specs.declared.Counts.{Counts}
use Rattle.kinds.specs.Asks.{AskDeclared}
use Rattle.frames.specs.declared.Frame.{Frame}
use Rattle.meaning.specs.Lent.{Sound}
use Rattle.tables.specs.Asks.{ask_width}
use Rattle.expression.specs.Listed.{Listed}
use Rattle.reading.specs.declared.File.{File}
use Rattle.reading.specs.Tables.{asks, most, entries, table}
use Rattle.reading.specs.File.{file_of, held_ask, held_call, IsQuestion}
use Rattle.reading.specs.Reads.{IsRead}
use Rattle.reading.proofs.TableLaws.{table-length}
use Rattle.reading.proofs.Bounds.{few}
use Rattle.reading.proofs.Accepted.{accepted}
use Rattle.file.specs.Text.{IsInBytes}
use Rattle.file.specs.Replying.{ask_count}

pub small : (c : Counts) → c.individuals ≤ 255 → (ask : Ask) → AskDeclared c ask → IsInBytes ask
small c few (Pair a b) d = (omega (arith, d.0), omega (arith, d.1))
small c few (From a) d = omega (arith, d)

pub ask_entries : (fs : List Frame) → length (table asks fs) / ask_width ≡ entries asks fs
ask_entries fs = omega (arith, table-length asks fs)

module _ (file : File) (read : IsRead file) where
  count_is : ask_count file ≡ entries asks read.frames
  count_is = ap ask_count read.kept ∙ ask_entries read.frames

  pub few_asks : ask_count file ≤ most asks
  few_asks = omega (arith, count_is, few asks read.frames read.taken)

  -- none of the library's tests refuses the call of an ask
  pub call_sound : (q : Listed) → IsQuestion file q → (k : ℕ) → k < ask_count file → Sound (held_call file q k)
  call_sound q is k h =
      let s : Sound (held_call (file_of read.frames) q k) =
      accepted read.frames read.taken q (rw read.kept at is) k (omega (arith, count_is)) in
      subst (λ (f : File). Sound (held_call f q k)) (sym read.kept) s

  pub in_bytes : (q : Listed) → IsQuestion file q → (k : ℕ) → k < ask_count file → IsInBytes (held_ask file k)
  in_bytes q is k h = let s = call_sound q is k h in small file.counts s.counts.individuals (held_ask file k) s.ask
