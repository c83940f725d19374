use Rattle.quartz_parser.proofs.ItemLemmas.{keyword_token, sign_token}
use Rattle.quartz_parser.proofs.decode.read_item.Goals as goal

pub returns-in-Keyword : goal.returns-in-Keyword
returns-in-Keyword c = keyword_token c.args.text.now c.args.found.now c.classify.result c.fixed_item.result c.in-Keyword.is c.classify.ensures c.fixed_item.ensures

pub returns-in-Sign : goal.returns-in-Sign
returns-in-Sign c = sign_token c.args.text.now c.args.found.now c.classify-in-Sign.result c.fixed_item-in-Sign.result c.in-Sign.is c.classify-in-Sign.ensures c.fixed_item-in-Sign.ensures
