use Rattle.std.proofs.Common.{◌≡◌, ◌<◌, ◌∙◌, length, sym, arith}
use Rattle.std.proofs.lemmas.List.{get_or_read}
use Rattle.causality_check.specs.declared.components.Mark.TheVariants.{New, Open, Closed}
use Rattle.causality_check.specs.Search.{Table, cell_at, mark, table}
use Rattle.causality_check.proofs.SearchLemmas.{look_closed, look_new, look_open}
use Rattle.causality_check.proofs.components.Search.look.Goals as goal

pub index-requires : goal.index-requires
index-requires c = omega (arith, c.requires.closed (cell_at (table c.args.self.now) c.args.place) c.args.target c.requires.needed, c.requires.holds.rows.marks_length, c.args.self.now.marks.ok.0)

pub open-requires : goal.open-requires
open-requires c = omega (arith, c.requires.closed (cell_at (table c.args.self.now) c.args.place) c.args.target c.requires.needed, c.requires.holds.rows.marks_length)

pub returns-in_ok-open-in-New : goal.returns-in_ok-open-in-New
returns-in_ok-open-in-New c =
    let t : Table = table c.args.self.now in
    let hb : c.args.target < length c.args.graph.now = c.requires.closed (cell_at t c.args.place) c.args.target c.requires.needed in
    let is : mark t c.args.target ≡ New = sym (get_or_read t.marks c.args.target c.index.result.now (omega (arith, hb, c.requires.holds.rows.marks_length)) c.index.ensures New) ∙ c.in-New.is in
    look_new c.args.graph.now t (table c.open.new.self) c.args.place c.args.target c.in_ok-open-in-New.ensures hb is c.requires.present c.requires.needed c.requires.holds

pub returns-in-Open : goal.returns-in-Open
returns-in-Open c =
    let t : Table = table c.args.self.now in
    let hb : c.args.target < length c.args.graph.now = c.requires.closed (cell_at t c.args.place) c.args.target c.requires.needed in
    let is : mark t c.args.target ≡ Open c.in-Open.at = sym (get_or_read t.marks c.args.target c.index.result.now (omega (arith, hb, c.requires.holds.rows.marks_length)) c.index.ensures New) ∙ c.in-Open.is in
    look_open c.args.graph.now t c.args.place c.args.target c.in-Open.at c.drop_above.new.numbers.items is c.requires.present c.requires.needed c.drop_above.ensures c.requires.holds

pub returns-in-Closed : goal.returns-in-Closed
returns-in-Closed c =
    let t : Table = table c.args.self.now in
    let hb : c.args.target < length c.args.graph.now = c.requires.closed (cell_at t c.args.place) c.args.target c.requires.needed in
    let is : mark t c.args.target ≡ Closed c.in-Closed.field-0 = sym (get_or_read t.marks c.args.target c.index.result.now (omega (arith, hb, c.requires.holds.rows.marks_length)) c.index.ensures New) ∙ c.in-Closed.is in
    look_closed c.args.graph.now t c.args.place c.args.target c.in-Closed.field-0 is c.requires.present c.requires.holds
