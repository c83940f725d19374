use Rattle.reincarnation.proofs.MeaningLemmas.{carries_one_store, carrying_goes_back, carrying_keeps, carrying_names_earlier, depth_is_carried, entered_is_carried, entering_reserves}
use Rattle.reincarnation.proofs.law.carrying_keeps_one_store.Goals as goal

pub returns-clause-carries : goal.returns-clause-carries
returns-clause-carries c = carries_one_store

pub returns-clause-depth : goal.returns-clause-depth
returns-clause-depth c = depth_is_carried

pub returns-clause-entered : goal.returns-clause-entered
returns-clause-entered c = entered_is_carried

pub returns-clause-keeps : goal.returns-clause-keeps
returns-clause-keeps c = carrying_keeps

pub returns-clause-back : goal.returns-clause-back
returns-clause-back c = carrying_goes_back

pub returns-clause-names : goal.returns-clause-names
returns-clause-names c = carrying_names_earlier

pub returns-clause-reserves : goal.returns-clause-reserves
returns-clause-reserves c = entering_reserves
