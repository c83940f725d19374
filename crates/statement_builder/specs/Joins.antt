-- Where parallel parts end.
use Rattle.std.specs.Prelude.{ℕ, zero, suc, List, [], ◌∷◌}
use Rattle.quartz_expr.specs.Vars.{Vars}
use Rattle.quartz_expr.specs.Terms.{Terms}
use Rattle.aif_cells.specs.declared.reference.Ref.{Ref}
use Rattle.statement_cells.specs.Labels.{labels_all}
use Rattle.statement_cells.specs.Builder.{Builder as Plain, Made, not_of, and_of, or_of, in_of}
use Rattle.statement_cells.specs.Surface.{MadeAll, and_more, at_end, given_all}

-- a part with so many labels ended, or is at rest
abbrev pub at_rest : (label labels : ℕ) → (end : Ref) → Plain → Made
at_rest l n e β =
    let i = in_of l n β in
    let o = not_of i.ref i.built in
    or_of e o.ref o.built

-- the same of a part with labels alone
abbrev pub part_end : (label labels : ℕ) → (end : Ref) → Plain → MadeAll
part_end l zero e β = given_all [] β
part_end l (suc n) e β = let m = at_rest l (suc n) e β in given_all (m.ref ∷ []) m.built

-- some label is 1, and all parts with labels ended or are at rest
abbrev pub joined : Vars → (label : ℕ) → Terms → (ends : List Ref) → (res : Ref) → Plain → Made
joined vs l ts rs res β =
    let e = at_end vs l ts rs β in
    let i = in_of l (labels_all ts) e.built in
    let n = and_of i.ref res i.built in
    and_more n.ref e.refs n.built
