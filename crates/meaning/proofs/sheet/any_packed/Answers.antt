-- Bits and bytes that hold one sheet.
use Rattle.meaning.proofs.BytesLaws.{one-sheet, to-bits, to-bytes}
use Rattle.meaning.proofs.sheet.any_packed.Goals as goal

pub returns : goal.returns
returns g c = record { same_places = one-sheet _; to_bits = to-bits _; to_bytes = to-bytes _ }
