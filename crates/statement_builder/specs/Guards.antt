-- What preemptions and choices begin with, and how they end.
use Rattle.std.specs.Prelude.{ℕ, ◌+◌, Bool, true, false}
use Rattle.quartz_tree.specs.Tree.{Tree as Expr}
use Rattle.quartz_expr.specs.Vars.{Vars}
use Rattle.aif_cells.specs.declared.reference.Ref.{Ref}
use Rattle.aif_cells.specs.declared.reference.Ref.TheVariants as ref
use Rattle.statement_cells.specs.Expressions.{Copies}
use Rattle.statement_cells.specs.Builder.{Builder as Plain, Made, given, zero_ref, not_of, and_of, or_of, in_of, enter, stay_at}
use Rattle.statement_cells.specs.Surface.{tested, suspended}
use Rattle.statement_builder.specs.declared.guarding.Guarded.{Guarded}
use Rattle.statement_builder.specs.declared.guarding.Stopped.{Stopped}
use Rattle.statement_builder.specs.declared.guarding.Suspension.{Suspension}
use Rattle.statement_builder.specs.declared.guarding.Side.{Side}

-- the first side of a choice starts where the condition holds
abbrev pub first_side : Vars → Copies → Expr ℕ → (go : Ref) → Plain → Side × Plain
first_side vs κ c go β =
    let k = tested vs κ c go β in
    let g = and_of go k.ref k.built in
    (record { cond = k.ref; go = g.ref }, g.built)

-- the other side starts where it doesn't
abbrev pub other_side : (cond go : Ref) → Plain → Made
other_side k go β =
    let n = not_of k β in
    and_of go n.ref n.built

-- the condition blocks the moves of a weak preemption, and the body of a strong one
abbrev pub blocked : (weak : Bool) → (cond unless : Ref) → (label : ℕ) → (go step : Ref) → Plain → Guarded × Plain
blocked true k n l go step β =
    let m = and_of step n β in
    (record { cond = k; label = l; go = go; step = m.ref }, m.built)
blocked false k n l go step β =
    let g = and_of go n β in
    (record { cond = k; label = l; go = g.ref; step = step }, g.built)

-- a suspension that begins suspended enters its wait label
abbrev pub waited : (is_abort : Bool) → (label : ℕ) → (cond go step : Ref) → Plain → ℕ × Plain
waited true l k go step β = (l, β)
waited false l k go step β =
    let b = and_of go k β in
    let w = and_of b.ref step b.built in
    (l + 1, enter l w.ref w.built)

-- what the body of an immediate preemption starts with
abbrev pub begun_immediate : Vars → Copies → (is_abort weak : Bool) → Expr ℕ → (label : ℕ) → (go step : Ref) → Plain → Guarded × Plain
begun_immediate vs κ a w c l go step β =
    let k = tested vs κ c go β in
    let v = waited a l k.ref go step k.built in
    let n = not_of k.ref v.1 in
    blocked w k.ref n.ref v.0 go step n.built

-- what the body of a preemption starts with; one that isn't immediate starts it as it is
abbrev pub begun_guard : Vars → Copies → (is_abort weak immediate : Bool) → Expr ℕ → (label : ℕ) → (go step : Ref) → Plain → Guarded × Plain
begun_guard vs κ a w false c l go step β = (record { cond = zero_ref; label = l; go = go; step = step }, β)
begun_guard vs κ a w true c l go step β = begun_immediate vs κ a w c l go step β

-- an abort also ends where its condition holds, and a weak suspension doesn't
abbrev pub ended_immediate : (is_abort weak : Bool) → (cond go end : Ref) → Plain → Made
ended_immediate true w k go e β =
    let h = and_of go k β in
    or_of e h.ref h.built
ended_immediate false false k go e β = given e β
ended_immediate false true k go e β =
    let o = not_of k β in
    and_of e o.ref o.built

-- where a preemption ends that starts
abbrev pub ended_guard : (is_abort weak immediate : Bool) → (cond go end : Ref) → Plain → Made
ended_guard a w false k go e β = given e β
ended_guard a w true k go e β = ended_immediate a w k go e β

-- what the body of an abort goes on with, and where the abort is
abbrev pub begun_abort : Vars → Copies → (weak : Bool) → Expr ℕ → (label labels : ℕ) → (res step : Ref) → Plain → Stopped × Plain
begun_abort vs κ w c l n res step β =
    let i = in_of l n β in
    let a = and_of i.ref res i.built in
    let k = tested vs κ c a.ref a.built in
    let o = not_of k.ref k.built in
    let b = blocked w k.ref o.ref l res step o.built in
    (record { inside = a.ref; body = b.0 }, b.1)

-- where an abort ends that goes on
abbrev pub ended_abort : (inside cond end : Ref) → Plain → Made
ended_abort n k e β =
    let h = and_of n k β in
    or_of e h.ref h.built

-- what the body of a suspension goes on with, and where its labels stay
abbrev pub begun_suspend : Vars → Copies → (weak : Bool) → Expr ℕ → (label labels : ℕ) → (res step stay : Ref) → Plain → Suspension × Plain
begun_suspend vs κ w c l n res step stay β =
    let h = suspended vs κ l n c res step stay β in
    let o = not_of h.cond h.built in
    let b = blocked w h.cond o.ref l res step o.built in
    (record { stay = h.stay; body = b.0 }, b.1)

-- the wait label starts the body
abbrev pub woken : (label : ℕ) → (go stay : Ref) → Plain → Made
woken l go stay β = and_of (ref.Reg l) go (stay_at l stay β)

-- where a suspension ends that goes on
abbrev pub ended_suspend : (weak : Bool) → (cond end : Ref) → Plain → Made
ended_suspend false k e β = given e β
ended_suspend true k e β =
    let o = not_of k β in
    and_of e o.ref o.built
