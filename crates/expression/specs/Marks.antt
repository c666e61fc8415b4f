-- The byte marks of a typed expression.
use Rattle.std.specs.Prelude.{ℕ, ◌/◌, ◌%◌}
use Rattle.meaning.specs.Collection.{Letter}
use Rattle.meaning.specs.Lent.{letter_of}

-- the marks below this are role marks, 00 to 3F, and test marks, 40 to 7F
abbrev pub opening : ℕ
opening = 0x80

abbrev pub closing : ℕ
closing = 0x81

abbrev pub or_mark : ℕ
or_mark = 0x82

abbrev pub repeat_mark : ℕ
repeat_mark = 0x83

-- how many signed roles there are, and names
abbrev pub letters_of_a_kind : ℕ
letters_of_a_kind = 64

-- what a role mark or a test mark reads: a signed role, or a test on a name
abbrev pub mark_letter : ℕ → Letter
mark_letter b = letter_of (b / letters_of_a_kind) (b % letters_of_a_kind)
