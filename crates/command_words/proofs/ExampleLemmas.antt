-- What some words mean, by computation.
use Rattle.std.proofs.Common.{◌≡◌, [], ◌∷◌, Some, None, true, false, refl}
use Rattle.std.specs.Prelude.{codes}
use Rattle.command_words.specs.declared.command.Command.TheVariants.{Run, Check, Load}
use Rattle.command_words.specs.Words.{meant, meant_to_stay}

run_alone : meant (codes "run" ∷ codes "M" ∷ []) ≡ Some (Run (codes "M") 1 1 4 4294967295 false)
run_alone = refl

-- in any order, a value in the next word or behind `=`, with leading zeros and one `+`
in_any_order : meant (codes "run" ∷ codes "--ring" ∷ codes "+08" ∷ codes "M" ∷ codes "--witness" ∷ codes "--stages=016" ∷ []) ≡ Some (Run (codes "M") 16 1 8 4294967295 true)
in_any_order = refl

-- behind `--` every word is a module
behind_separator : meant (codes "check" ∷ codes "--strict" ∷ codes "--" ∷ codes "--strict" ∷ []) ≡ Some (Check (codes "--strict") true)
behind_separator = refl

greatest_seed : meant (codes "load" ∷ codes "-" ∷ codes "--seed" ∷ codes "18446744073709551615" ∷ codes "--steps" ∷ codes "1000000" ∷ []) ≡ Some (Load (codes "-") 18446744073709551615 1000000 1 1 4)
greatest_seed = refl

given_twice : meant (codes "run" ∷ codes "M" ∷ codes "--ring=8" ∷ codes "--ring=8" ∷ []) ≡ None
given_twice = refl

ring_too_large : meant (codes "run" ∷ codes "M" ∷ codes "--ring" ∷ codes "65" ∷ []) ≡ None
ring_too_large = refl

dashed_value : meant (codes "run" ∷ codes "M" ∷ codes "--ring" ∷ codes "-1" ∷ []) ≡ None
dashed_value = refl

shortened : meant (codes "run" ∷ codes "M" ∷ codes "--rin" ∷ codes "8" ∷ []) ≡ None
shortened = refl

two_modules : meant (codes "run" ∷ codes "M" ∷ [] ∷ []) ≡ None
two_modules = refl

-- `-` alone is no number
lone_dash : meant (codes "run" ∷ codes "M" ∷ codes "--ring" ∷ codes "-" ∷ []) ≡ None
lone_dash = refl

-- the resident program takes the words of a run, but for a witness
staying : meant_to_stay (codes "stay" ∷ codes "M" ∷ codes "--ring=8" ∷ []) ≡ Some (Run (codes "M") 1 1 8 4294967295 false)
staying = refl

stays_with_witness : meant_to_stay (codes "stay" ∷ codes "M" ∷ codes "--witness" ∷ []) ≡ None
stays_with_witness = refl

runs_on_stay : meant_to_stay (codes "run" ∷ codes "M" ∷ []) ≡ None
runs_on_stay = refl
