use Rattle.std.proofs.Common.{◌≡◌, ◌<◌, ◌∙◌, ℕ, List, [], length, get_or, sym, arith}
use Rattle.std.proofs.lemmas.List.{get_or_read}
use Rattle.causality_check.specs.declared.components.Mark.{Mark}
use Rattle.causality_check.specs.declared.components.Mark.TheVariants.{New}
use Rattle.causality_check.specs.Search.{Holds, IsStepped, Table, mark, table, with_open}
use Rattle.causality_check.proofs.SearchLemmas.{opened_alone, stepped_then}
use Rattle.causality_check.proofs.components.Search.explore.Goals as goal

-- a new cell is opened
opened : (g : List (List ℕ)) (t u : Table) (b : ℕ) (m : Mark) → u ≡ with_open t b → b < length g → m ≡ get_or t.marks b m → m ≡ New → t.stack ≡ [] → Holds g t → IsStepped g t u × (mark u b ≡ New → ⊥)
opened g t u b m same hb e f none h = opened_alone g t u b same hb (sym (get_or_read t.marks b m (omega (arith, hb, h.rows.marks_length)) e New) ∙ f) none h

pub work_off-requires-clause-holds : goal.work_off-requires-clause-holds
work_off-requires-clause-holds c = (opened c.args.graph.now (table c.args.self.now) (table c.open.new.self) c.args.root c.index.result.now c.in_ok-open-in-New.ensures c.requires.root c.index.ensures c.in-New.is c.requires.none c.requires.holds).0.holds

pub returns-in_ok-work_off-in-New-clause-stepped : goal.returns-in_ok-work_off-in-New-clause-stepped
returns-in_ok-work_off-in-New-clause-stepped c = stepped_then c.args.graph.now (table c.args.self.now) (table c.open.new.self) (table c.work_off.new.self)
    (opened c.args.graph.now (table c.args.self.now) (table c.open.new.self) c.args.root c.index.result.now c.in_ok-open-in-New.ensures c.requires.root c.index.ensures c.in-New.is c.requires.none c.requires.holds).0
    c.in_ok-work_off-in-New.ensures.stepped

pub returns-in_ok-work_off-in-New-clause-root : goal.returns-in_ok-work_off-in-New-clause-root
returns-in_ok-work_off-in-New-clause-root c = c.in_ok-work_off-in-New.ensures.stepped.reached c.args.root
    (opened c.args.graph.now (table c.args.self.now) (table c.open.new.self) c.args.root c.index.result.now c.in_ok-open-in-New.ensures c.requires.root c.index.ensures c.in-New.is c.requires.none c.requires.holds).1
