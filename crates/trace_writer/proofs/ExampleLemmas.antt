-- The definitions at examples that are worked out by hand.
use Rattle.std.proofs.Common.{◌≡◌, ℕ, pos, List, [], ◌∷◌, None, refl, false}
use Rattle.std.specs.Prelude.{codes}
use Rattle.quartz_tree.specs.declared.declare.Base.TheVariants as base
use Rattle.quartz_tree.specs.declared.declare.Flow.TheVariants.{Input}
use Rattle.quartz_tree.specs.declared.declare.Storage.TheVariants.{Mem}
use Rattle.quartz_expr.specs.Vars.{Vars}
use Rattle.trace_io.specs.Reading.{steps}
use Rattle.trace_io.specs.Story.{bad, done, limit}
use Rattle.trace_writer.specs.declared.format.Format.{Format}
use Rattle.trace_writer.specs.declared.format.Format.TheVariants.{Plain, Headed}
use Rattle.trace_writer.specs.Anew.{Tale, tale, bytes_of}

-- two inputs x and y
abbrev two_inputs : Vars
two_inputs = record { decl = record { name = codes "x"; ty = record { base = base.Bool; len = None }; storage = Mem; flow = Input; place = record { line = 1; col = 1 }; base_place = record { line = 1; col = 1 }; len_place = record { line = 1; col = 1 }; init = None }; delayed = false; start = pos 0 }
    ∷ record { decl = record { name = codes "y"; ty = record { base = base.Bool; len = None }; storage = Mem; flow = Input; place = record { line = 1; col = 1 }; base_place = record { line = 1; col = 1 }; len_place = record { line = 1; col = 1 }; init = None }; delayed = false; start = pos 0 }
    ∷ []

abbrev anew : Format → (trace : List ℕ) → List ℕ
anew f trace = bytes_of f two_inputs (tale f two_inputs 4294967295 (steps two_inputs trace)).written

changes_told : anew Headed (codes "1 1\n1 0\n0 0\n") ≡ codes "# x y\n1 1\n_ 0\n0 _\n"
changes_told = refl

values_told : anew Plain (codes "# x y\n1 1\n_ 0\n0 _\n") ≡ codes "1 1\n1 0\n0 0\n"
values_told = refl

first_kept : anew Headed (codes "0 1\n") ≡ codes "# x y\n_ 1\n"
first_kept = refl

unnamed_kept : anew Headed (codes "# y\n1\n_") ≡ codes "# x y\n_ 1\n_ _\n"
unnamed_kept = refl

no_step : anew Headed [] ≡ codes "# x y\n"
no_step = refl

bad_step : tale Plain two_inputs 4294967295 (steps two_inputs (codes "1 1\n2 1\n0 0\n")) ≡ record { written = codes "1 1\n" ∷ []; end = bad 1 }
bad_step = refl

one_too_many : tale Plain two_inputs 1 (steps two_inputs (codes "1 1\n0 1\n")) ≡ record { written = codes "1 1\n" ∷ []; end = limit }
one_too_many = refl

just_enough : tale Plain two_inputs 1 (steps two_inputs (codes "1 1\n")) ≡ record { written = codes "1 1\n" ∷ []; end = done }
just_enough = refl
