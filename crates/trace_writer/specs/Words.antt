-- What can stand as a word between the blanks of a line, and which inputs a header can name.
use Rattle.std.specs.Prelude.{◌≡◌, ℕ, true, false, ◌==◌, List, [], ◌∷◌}
use Rattle.quartz_expr.specs.Vars.{Vars}
use Rattle.trace_io.specs.Lines.{is_blank, is_short}
use Rattle.trace_io.specs.Inputs.{are_different}
use Rattle.trace_writer.specs.declared.format.Format.TheVariants.{Headed}
use Rattle.trace_writer.specs.Anew.{input_names, new_header}

-- a byte that is no blank or tab, and neither an LF nor a CR
pub record IsInside (c : ℕ) : Type 0 where
  pub blank : is_blank c ≡ false
  pub end : (c == 10) ≡ false
  pub return : (c == 13) ≡ false

abbrev pub AreInside : List ℕ → Type 0
AreInside [] = Unit {0}
AreInside (c ∷ cs) = IsInside c × AreInside cs

-- a word: at least one such byte, and no other
abbrev pub IsWhole : List ℕ → Type 0
IsWhole [] = ⊥
IsWhole (c ∷ cs) = AreInside (c ∷ cs)

abbrev pub AreWhole : List (List ℕ) → Type 0
AreWhole [] = Unit {0}
AreWhole (w ∷ ws) = IsWhole w × AreWhole ws

-- the inputs can be named in a header: their names are different words, and together no longer than a line
pub record CanBeNamed (vs : Vars) : Type 0 where
  pub words : AreWhole (input_names vs)
  pub different : are_different (input_names vs) ≡ true
  pub short : is_short (new_header Headed vs) ≡ true
