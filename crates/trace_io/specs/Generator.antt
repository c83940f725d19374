-- A generator between two reads.
use Rattle.std.specs.Prelude.{ℕ, List, ◌++◌}
use Rattle.quartz_tree.specs.declared.declare.Base.{Base}
use Rattle.trace_io.specs.Writing.{generated_of}

-- what is left of the line that was begun, the types of the elements, the last number, and how many lines are to come
pub record Generator : Type 0 where
  pub rest : List ℕ
  pub types : List Base
  pub number : ℕ
  pub steps : ℕ

-- all bytes that are to come
abbrev pub bytes_left : Generator → List ℕ
bytes_left g = g.rest ++ generated_of g.types g.number g.steps
