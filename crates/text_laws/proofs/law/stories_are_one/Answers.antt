use Rattle.text_laws.proofs.StoryLemmas.{stories_are_one}
use Rattle.text_laws.proofs.law.stories_are_one.Goals as goal

pub returns : goal.returns
returns c = stories_are_one
