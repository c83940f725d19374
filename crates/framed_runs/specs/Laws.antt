-- What the runs of a module among modules have in common with those of the whole.
use Rattle.std.specs.Prelude.{ℤ, List, length, Option}
use Rattle.quartz_tree.specs.declared.fault.Fault.{Fault}
use Rattle.quartz_tree.specs.Kernel.{Kernel}
use Rattle.quartz_expr.specs.Vars.{Vars}
use Rattle.quartz_expr.specs.Terms.{term_of}
use Rattle.quartz_expr.specs.Runs as plain
use Rattle.framed_terms.specs.Framed.{Meanings, Meaning}
use Rattle.framed_terms.specs.FramedRuns.{Runs}
use Rattle.framed_terms.specs.Similar.{Sim}
use Rattle.framed_runs.specs.Parameters.{Heads, front}

-- each run of the module is one of the whole
abbrev pub FramedRunsArePlain : Type 0
FramedRunsArePlain = (us : Meanings) (u : Meaning) (ws : Vars) (body : Kernel) (h : Heads u.vars ws) (ins outs : List (List (List ℤ))) (end : Option Fault)
    → Sim us ws u.vars (front (length h.params)) u.body (term_of body) → Runs us u ins outs end → plain.Runs ws body ins outs end

-- and each run of the whole is one of the module
abbrev pub PlainRunsAreFramed : Type 0
PlainRunsAreFramed = (us : Meanings) (u : Meaning) (ws : Vars) (body : Kernel) (h : Heads u.vars ws) (ins outs : List (List (List ℤ))) (end : Option Fault)
    → Sim us ws u.vars (front (length h.params)) u.body (term_of body) → plain.Runs ws body ins outs end → Runs us u ins outs end
