use Rattle.stage_tests.proofs.cuts.+least_of_all.Given as goal

-- each division of the others has one stage fewer
abbrev pub decreases-least_of_all : goal.decreases-least_of_all
decreases-least_of_all l = l.stages
