-- `ask`: the outcome, and each clause from it.
use Rattle.std.proofs.Common.{refl}
use Rattle.index.specs.Clauses.{called}
use Rattle.index.proofs.ClausesHold.{clauses}
use Rattle.index.proofs.Outcomes.{replied-as}
use Rattle.index.proofs.Replies.{fails}
use Rattle.index.proofs.lent.Lent.ask.Goals as goal

pub returns-then-not-declared : goal.returns-then-not-declared
returns-then-not-declared c =
    let o = c.undeclared.ensures c.args.ask _ _ refl refl (fails c.declared.ensures c.if-not-declared.true) in
    let w = clauses (called c.args.self.now c.args.ask c.args.area.now c.args.spare.now) _ _ _ o in
    record {
      outcome = o;
      bad_count = w.bad_count;
      bad_table = w.bad_table;
      bad_number = w.bad_number;
      bad_ask = w.bad_ask;
      contradiction = w.contradiction;
      spent = w.spent;
      yes = w.yes;
      no = w.no;
      sheet = w.sheet;
      cleared = w.cleared;
      untouched = w.untouched;
      spared = w.spared;
      listed = w.listed;
      seven_never = w.seven_never;
      fixed = w.fixed;
      model = w.model;
      enough = w.enough;
      most = w.most;
      forced = w.forced;
      no_world = w.no_world;
      a_world = w.a_world;
      not_forced = w.not_forced;
      same_sets = w.same_sets;
      deeds = w.deeds;
      grows = w.grows;
      returns = w.returns;
    }

pub returns : goal.returns
returns c =
    let p = c.prepare-prepared.ensures in
    let o = replied-as c.args.self.now _ _ _ _ _ p.own
    (record { sheet = p.sheet; cleared = p.cleared; untouched = p.untouched; spared = p.spared }) c.args.ask _
    (c.declared.ensures.0 c.if-not-declared.false) c.reply.ensures.answer in
    let w = clauses (called c.args.self.now c.args.ask c.args.area.now c.args.spare.now) _ _ _ o in
    record {
      outcome = o;
      bad_count = w.bad_count;
      bad_table = w.bad_table;
      bad_number = w.bad_number;
      bad_ask = w.bad_ask;
      contradiction = w.contradiction;
      spent = w.spent;
      yes = w.yes;
      no = w.no;
      sheet = w.sheet;
      cleared = w.cleared;
      untouched = w.untouched;
      spared = w.spared;
      listed = w.listed;
      seven_never = w.seven_never;
      fixed = w.fixed;
      model = w.model;
      enough = w.enough;
      most = w.most;
      forced = w.forced;
      no_world = w.no_world;
      a_world = w.a_world;
      not_forced = w.not_forced;
      same_sets = w.same_sets;
      deeds = w.deeds;
      grows = w.grows;
      returns = w.returns;
    }
