use Rattle.text_laws.proofs.StoryLemmas.{stories_exist}
use Rattle.text_laws.proofs.law.stories_exist.Goals as goal

pub returns : goal.returns
returns c = stories_exist
