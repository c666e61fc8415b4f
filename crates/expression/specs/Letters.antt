-- What a mark reads, as the tables have it.
use Rattle.std.specs.Prelude.{ℕ, ◌/◌, ◌%◌}
use Rattle.tables.specs.declared.records.Letter.{Letter}
use Rattle.tables.specs.Letters.{read_letter}
use Rattle.expression.specs.Marks.{letters_of_a_kind}

abbrev pub table_letter : ℕ → Letter
table_letter b = read_letter (b / letters_of_a_kind) (b % letters_of_a_kind)
