-- The definitions at examples that are worked out by hand.
use Rattle.std.proofs.Common.{◌≡◌, pos, negsuc, [], ◌∷◌, Some, None, refl, false}
use Rattle.std.specs.Prelude.{codes}
use Rattle.quartz_tree.specs.declared.declare.Base.TheVariants as base
use Rattle.quartz_tree.specs.declared.declare.Flow.TheVariants.{Input}
use Rattle.quartz_tree.specs.declared.declare.Storage.TheVariants.{Mem}
use Rattle.quartz_expr.specs.Vars.{Vars}
use Rattle.trace_io.specs.Lines.{lines, words}
use Rattle.trace_io.specs.Values.{reads_value, value_text}
use Rattle.trace_io.specs.Reading.{steps}
use Rattle.trace_io.specs.Writing.{generated}

leading_zeros : reads_value (base.Nat 10) (codes "0009") ≡ Some (pos 9)
leading_zeros = refl

minus_zero : reads_value (base.Nat 10) (codes "-0") ≡ Some (pos 0)
minus_zero = refl

minus_alone : reads_value (base.Int 8) (codes "-") ≡ None
minus_alone = refl

least : reads_value (base.Int 8) (codes "-8") ≡ Some (negsuc 7)
least = refl

bits : reads_value (base.Bv 4) (codes "0b1010") ≡ Some (pos 10)
bits = refl

bits_too_few : reads_value (base.Bv 4) (codes "0b101") ≡ None
bits_too_few = refl

bits_text : value_text (base.Bv 8) (pos 165) ≡ codes "0b10100101"
bits_text = refl

three_lines : lines (codes "1\n\n0") ≡ codes "1\n" ∷ codes "\n" ∷ codes "0" ∷ []
three_lines = refl

two_words : words (codes "  1   -2 ") ≡ codes "1" ∷ codes "-2" ∷ []
two_words = refl

-- two inputs x and y
abbrev two_inputs : Vars
two_inputs = record { decl = record { name = codes "x"; ty = record { base = base.Bool; len = None }; storage = Mem; flow = Input; place = record { line = 1; col = 1 }; base_place = record { line = 1; col = 1 }; len_place = record { line = 1; col = 1 }; init = None }; delayed = false; start = pos 0 }
    ∷ record { decl = record { name = codes "y"; ty = record { base = base.Bool; len = None }; storage = Mem; flow = Input; place = record { line = 1; col = 1 }; base_place = record { line = 1; col = 1 }; len_place = record { line = 1; col = 1 }; init = None }; delayed = false; start = pos 0 }
    ∷ []

plain_trace : steps two_inputs (codes "1\t 1\r\n0 0\r\n  1   1") ≡ Some (pos 1 ∷ pos 1 ∷ []) ∷ Some (pos 0 ∷ pos 0 ∷ []) ∷ Some (pos 1 ∷ pos 1 ∷ []) ∷ []
plain_trace = refl

one_too_many : steps two_inputs (codes "1 1\n1 1 1\n0 0\n") ≡ Some (pos 1 ∷ pos 1 ∷ []) ∷ None ∷ []
one_too_many = refl

headed_trace : steps two_inputs (codes "# y x\n1 1\n0 _\n") ≡ Some (pos 1 ∷ pos 1 ∷ []) ∷ Some (pos 1 ∷ pos 0 ∷ []) ∷ []
headed_trace = refl

unnamed_is_zero : steps two_inputs (codes "# x\n1\n") ≡ Some (pos 1 ∷ pos 0 ∷ []) ∷ []
unnamed_is_zero = refl

no_such_input : steps two_inputs (codes "# x z\n1 1\n") ≡ None ∷ []
no_such_input = refl

named_twice : steps two_inputs (codes "# x x\n1 1\n") ≡ None ∷ []
named_twice = refl

header_alone : steps two_inputs (codes "#\n") ≡ []
header_alone = refl

generated_line : generated two_inputs 0 1 ≡ codes "1 0\n"
generated_line = refl
