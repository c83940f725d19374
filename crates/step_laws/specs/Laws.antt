-- Bits begin as bits, and macro steps keep them.
use Rattle.std.specs.Prelude.{ℤ, List}
use Rattle.quartz_tree.specs.Kernel.{kernel}
use Rattle.quartz_expr.specs.Vars.{Vars}
use Rattle.quartz_expr.specs.Terms.{Term, term_of}
use Rattle.quartz_expr.specs.Steps.{State}
use Rattle.quartz_types.specs.declared.typed.Typed.{Typed}
use Rattle.aif_cells.specs.Worth.{Assignment}
use Rattle.absence_reaction.specs.Meaning.{GuardsAreBits}
use Rattle.causality_check.specs.Order.{HasNoCycle}
use Rattle.statement_cells.specs.Whole.{compiled}
use Rattle.statement_cells.specs.Meaning.{IsSoundModule, StandsFor, initial_registers, next_registers}
use Rattle.macro_steps.specs.Laws.{IsSolved}
use Rattle.step_laws.specs.Conditions.{HasConditions}
use Rattle.step_laws.specs.Bits.{RegistersAreBits}

-- the conditions of a typed module are truth values
abbrev pub TypedModulesHaveConditions : Type 0
TypedModulesHaveConditions = (t : Typed) → HasConditions t.resolved.vars (term_of (kernel t.resolved.body))

abbrev pub InitialRegistersAreBits : Type 0
InitialRegistersAreBits = (vs : Vars) (body : Term) → RegistersAreBits vs body (initial_registers (compiled vs body).registers)

-- in a macro step from registers that are bits all guards are bits, and so are the next registers
abbrev pub StepsKeepBits : Type 0
StepsKeepBits = (vs : Vars) (body : Term) (s : State) (ins : List (List ℤ)) (σ : Assignment)
    → IsSoundModule vs body → HasConditions vs body → HasNoCycle (compiled vs body).cells → StandsFor vs body σ.registers s → IsSolved vs body ins σ → RegistersAreBits vs body σ.registers
    → GuardsAreBits σ (compiled vs body).actions × RegistersAreBits vs body (next_registers σ (compiled vs body).registers)
