-- A text declares fewer variables than it has bytes.
use Rattle.std.proofs.Common.{◌≡◌, ◌≤◌, ◌<◌, ◌+◌, ◌^◌, ℕ, suc, List, [], ◌∷◌, ◌++◌, length, refl, ap, length-append, arith}
use Rattle.quartz_tree.specs.declared.place.Place.{Place}
use Rattle.quartz_tree.specs.declared.declare.Decl.{Decl}
use Rattle.quartz_tree.specs.Surfaces.{ModuleTree}
use Rattle.quartz_lexer.specs.Lexing.{Lexeme, Reads, done, gap, token, origin, place_after}
use Rattle.quartz_lexer.proofs.Spellings.{spelled_some}
use Rattle.quartz_parser.specs.Symbols.{tokens_of}
use Rattle.quartz_parser.specs.Tokens.{Token}
use Rattle.quartz_names.specs.Resolving.{declarations, resolved_body, resolved_vars, variables_from}
use Rattle.quartz_names.specs.Targets.{next_targets}
use Rattle.quartz_build.specs.Broken.{IsTextOf}
use Rattle.text_laws.proofs.PickLemmas.{Picks, stop, skip, pick, each_picks, places}

picked : (text : List ℕ) (m : ModuleTree) (t : IsTextOf text (m ∷ [])) → Picks (tokens_of t.tokens) [] (places (declarations m))
picked text m t = (each_picks t.derives).0

picked_few : {ts us : List Token} {ps : List Place} → Picks ts us ps → length ps ≤ length ts
picked_few stop = omega arith
picked_few (skip a) = let few = picked_few a in omega (arith, few)
picked_few (pick a) = let few = picked_few a in omega (arith, few)

reads_few : (p : Place) (text : List ℕ) (ls : List Lexeme) (q : Place) (left : List ℕ) → Reads p text ls q left → length ls ≤ length text
reads_few p text _ _ _ (done _ _) = omega arith
reads_few p _ ls q left (gap _ bytes rest _ _ _ g r) =
    let few = reads_few (place_after p bytes) rest ls q left r in
    let size : length (bytes ++ rest) ≡ length bytes + length rest = length-append bytes rest in
    omega (arith, few, size)
reads_few p _ _ q left (token _ kind word rest ls _ _ t r) =
    let few = reads_few (place_after p word) rest ls q left r in
    let size : length (word ++ rest) ≡ length word + length rest = length-append word rest in
    let some : 0 < length word = spelled_some kind word t.spelled in
    omega (arith, few, size, some)

tokens_count : (ls : List Lexeme) → length (tokens_of ls) ≡ length ls
tokens_count [] = refl
tokens_count (l ∷ ls) = ap suc (tokens_count ls)

as_many : (targets : List ℕ) (n : ℕ) (ds : List Decl) → length (variables_from targets n ds) ≡ length (places ds)
as_many targets n [] = refl
as_many targets n (d ∷ ds) = ap suc (as_many targets (n + 1) ds)

pub variables_few : (text : List ℕ) (m : ModuleTree) → IsTextOf text (m ∷ []) → length (resolved_vars m) < 2 ^ 32
variables_few text m t =
    let many : length (resolved_vars m) ≡ length (places (declarations m)) = as_many (next_targets (resolved_body m)) 0 (declarations m) in
    let few : length (places (declarations m)) ≤ length (tokens_of t.tokens) = picked_few (picked text m t) in
    let tokens : length (tokens_of t.tokens) ≡ length t.tokens = tokens_count t.tokens in
    let bytes : length t.tokens ≤ length text = reads_few origin text t.tokens (place_after origin text) [] t.lexes.reads in
    let short : length text ≤ 65536 = t.lexes.short in
    omega (arith, many, few, tokens, bytes, short)
