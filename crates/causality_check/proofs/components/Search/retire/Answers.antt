use Rattle.std.proofs.Common.{ℕ, List, ◌≡◌, ◌∙◌, ◌++◌, [], ◌∷◌, inr, subst, sym, ap}
use Rattle.causality_check.specs.Search.{EndsIn, IsRetired, Table, cell_at, table}
use Rattle.causality_check.proofs.SearchLemmas.{popped, retired_alone, retired_closing}
use Rattle.causality_check.proofs.components.Search.retire.Goals as goal

pub returns-then-start-place : goal.returns-then-start-place
returns-then-start-place c = λ g all h.
    retired_alone g (table c.args.self.now) c.pop.new.self.items c.args.place
    (popped c.args.self.now.work.items c.pop.new.self.items c.args.place c.args.self.now.work.len c.requires.present c.args.self.now.work.ok.0 c.pop.ensures.rest)
    all (inr (c.in-Some.start, subst (λ (xs : List ℕ). EndsIn xs c.in-Some.start) c.as_slice.ensures.value c.in-Some.ensures, c.if-start-place.true)) h

pub returns : goal.returns
returns c = λ g all h.
    let t : Table = table c.args.self.now in
    let starts : t.starts ≡ c.pop-2.new.self.items ++ c.in-Some.start ∷ [] =
    popped t.starts c.pop-2.new.self.items c.in-Some.start c.args.self.now.starts.len (subst (λ (xs : List ℕ). EndsIn xs c.in-Some.start) c.as_slice.ensures.value c.in-Some.ensures) c.args.self.now.starts.ok.0 c.pop-2.ensures.rest in
    subst (IsRetired g t) (sym c.in_ok-close.ensures.others)
    (retired_closing g t c.close.new.self.marks.items c.args.place (cell_at t c.args.place) c.pop-2.new.self.items c.pop.new.self.items
    (popped t.work c.pop.new.self.items c.args.place c.args.self.now.work.len c.requires.present c.args.self.now.work.ok.0 c.pop.ensures.rest)
    (starts ∙ ap (λ (n : ℕ). c.pop-2.new.self.items ++ n ∷ []) c.if-start-place.false)
    all c.close.ensures.count c.in_ok-close.ensures.closed c.in_ok-close.ensures.kept h)
