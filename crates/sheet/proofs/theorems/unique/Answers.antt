-- Each contract leaves one value.
use Rattle.theory.specs.Sheet.{Mark}
use Rattle.rules.specs.Rows.{kind_of}
use Rattle.sheet.proofs.Once.{round_once, told_once, ended_once, lays_once, rows_lay_once, runs_once}
use Rattle.sheet.proofs.theorems.unique.Goals as goal

pub returns-clause-one_round : goal.returns-clause-one_round
returns-clause-one_round c = round_once

pub returns-clause-one_telling : goal.returns-clause-one_telling
returns-clause-one_telling c = told_once

pub returns-clause-one_end : goal.returns-clause-one_end
returns-clause-one_end c rows allowance r q = ended_once rows allowance

pub returns-clause-one_area : goal.returns-clause-one_area
returns-clause-one_area c rows n = lays_once (Mark (kind_of rows) n)

pub returns-clause-one_laying : goal.returns-clause-one_laying
returns-clause-one_laying c = rows_lay_once

pub returns-clause-one_closing : goal.returns-clause-one_closing
returns-clause-one_closing c = runs_once
