-- Pauses, loops and wait labels that go on.
use Rattle.std.specs.Prelude.{ℕ}
use Rattle.quartz_tree.specs.Tree.{Tree as Expr}
use Rattle.quartz_expr.specs.Vars.{Vars}
use Rattle.quartz_expr.specs.Terms.{Term}
use Rattle.aif_cells.specs.declared.reference.Ref.{Ref}
use Rattle.aif_cells.specs.declared.reference.Ref.TheVariants as ref
use Rattle.statement_cells.specs.Expressions.{Copies}
use Rattle.statement_cells.specs.Builder.{Builder as Plain, Made, and_of, stay_at}
use Rattle.statement_cells.specs.Surface.{surface, tested}
use Rattle.statement_builder.specs.declared.guarding.Side.{Side}
use Rattle.statement_builder.specs.Guards.{woken}

-- the label of a pause stays, and the pause ends
abbrev pub paused_on : (label : ℕ) → (res stay : Ref) → Plain → Made
paused_on l res stay β = and_of (ref.Reg l) res (stay_at l stay β)

-- the body of a loop starts again where it ends and the condition holds
abbrev pub repeats : Vars → Copies → Expr ℕ → (end : Ref) → Plain → Side × Plain
repeats vs κ c e β =
    let k = tested vs κ c e β in
    let g = and_of e k.ref k.built in
    (record { cond = k.ref; go = g.ref }, g.built)

-- the body of an immediate suspension starts from the wait label
abbrev pub woken_body : Vars → Copies → (label register : ℕ) → Term → (wait : ℕ) → (go step stay : Ref) → Plain → Made
woken_body vs κ l v t w go step stay β =
    let g = woken w go stay β in
    surface vs κ l v t g.ref step g.built
