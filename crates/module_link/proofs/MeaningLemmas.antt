-- Theorem L for what is linked. Each module that the main one reaches has fit calls: each of its sites keeps the rules, and
-- no list repeats a name; the size of the linked body bounds the numbers of calls.
use Rattle.std.proofs.Common.{◌≡◌, ◌<◌, ◌≤◌, ◌^◌, ℕ, ◌+◌, Bool, true, false, ◌||◌, ◌&&◌, not, List, [], ◌∷◌, ◌++◌, length, Contains, Option, Some, None, refl, sym, ap, ◌∙◌, subst, arith}
use Rattle.std.specs.List.{AllByRecursion}
use Rattle.quartz_tree.specs.declared.declare.Decl.{Decl}
use Rattle.quartz_tree.specs.declared.place.Place.{Place}
use Rattle.quartz_tree.specs.Expand.{expanded}
use Rattle.quartz_tree.specs.Surfaces.{Word, ModuleTree}
use Rattle.quartz_expr.specs.Kinds.{place_if}
use Rattle.quartz_expr.proofs.TruthLemmas.{none_left}
use Rattle.quartz_names.specs.NameRules.{name_breaks, repeated}
use Rattle.quartz_names.specs.Resolving.{body_scope, module_name_breaks, resolved_vars}
use Rattle.quartz_names.specs.Scopes.{no_names}
use Rattle.linked_trees.specs.Dotted.{is_plain, with_number}
use Rattle.linked_trees.specs.Fit.{AllCalls, Calls}
use Rattle.linked_trees.specs.Laws.{HaveSameRuns, IsMain, replaced}
use Rattle.linked_trees.specs.Linking.{calls, linker}
use Rattle.linked_trees.specs.Naming.{module_named}
use Rattle.call_rules.specs.Sizes.{size, size_of}
use Rattle.linked_trees.proofs.LawLemmas.{have_same_runs}
use Rattle.call_rules.proofs.RoomLemmas.{calls_in_size}
use Rattle.linked_trees.proofs.TheoremLemmas.{locals_have, params_have}
use Rattle.call_rules.specs.Around.{declaring, nothing_declared}
use Rattle.call_rules.specs.CallRules.{CallsKeep, KeepsS14, as_many, is_repeated, misfits, unfit, unfit_at}
use Rattle.call_rules.specs.Sites.{IsCallAt, Reach, Site, itself, sites_in}
use Rattle.module_link.specs.Meaning.{AreTextModules, IsLinked, IsTextModule, LinkedMeansTheSame}
use Rattle.module_link.proofs.KnownLemmas.{Differ, known_behind, unrepeated}
use Rattle.module_link.proofs.RepeatLemmas.{ModuleKeeps, all_keep, lists_of, reach_then}
use Rattle.module_link.proofs.SiteLemmas.{IsFitCall, all_fit, all_found, all_from, every_among}
use Rattle.module_link.proofs.FitLemmas.{IsKept, calls_fit}

module _ (ms : List ModuleTree) (main : Word) (keep : CallsKeep ms main) where
  kept_at : (x : Word) (t : ModuleTree) → Reach ms main x → module_named ms x ≡ Some t → (s : Site) → Contains (sites_in t) s → IsKept ms (Reach ms main) keep.height (keep.height x) s
  kept_at x t r e s c =
      let call : IsCallAt ms x s.name s.place = record { tree = t; found = e; site = s; among = c; name = refl; place = refl } in
      let f : IsFitCall ms s = every_among (IsFitCall ms) (sites_in t) s c (all_fit ms (sites_in t) (all_found ms (sites_in t) (keep.known x t r e)) (keep.fit x t r e)) in
      record {
        called = f.tree;
        found = f.found;
        counted = reach_then with_number ms main keep main x s.name s.place r call;
        lower = keep.falls x s.name s.place r call;
        many = f.fit.many;
        apart = f.fit.apart;
        suited = f.fit.suited;
      }

  -- the calls of a module that is reached are fit, where its lists repeat no name
  module_fits : (x : Word) (t : ModuleTree) → Reach ms main x → module_named ms x ≡ Some t → IsTextModule t → ModuleKeeps with_number ms main keep x t
      → Calls is_plain ms (Reach ms main) keep.height (keep.height x) (resolved_vars t) (body_scope t) (length t.params) t.body
  module_fits x t r e text keeps =
      calls_fit is_plain ms (Reach ms main) keep.height (keep.height x) (resolved_vars t) t.body (body_scope t) (declaring nothing_declared t.params) (length t.params)
      (known_behind (resolved_vars t) no_names nothing_declared 0 t.params (λ y d i. absurd (cc)) (params_have t) keeps.apart)
      (locals_have t) text.plain_locals (lists_of with_number ms main keep x t keeps)
      (all_from (IsKept ms (Reach ms main) keep.height (keep.height x)) (sites_in t) (kept_at x t r e))

  -- the main module's own block in the linked one
  main_keeps : (first : ModuleTree) → module_name_breaks (replaced ms (keep.height main) first) ≡ [] → ModuleKeeps with_number ms main keep main first
  main_keeps first e =
      let h = none_left (repeated first.params) _ e in
      record {
        depth = keep.height main;
        deep = omega arith;
        call = None;
        names = λ x. x;
        number = 1;
        all = body_scope (replaced ms (keep.height main) first);
        first = length first.params;
        keeps = h.1;
        apart = unrepeated first.params h.0;
      }

  same_runs : (first : ModuleTree) → module_named ms main ≡ Some first → KeepsS14 ms (keep.height main) first → AreTextModules ms → module_name_breaks (replaced ms (keep.height main) first) ≡ []
      → HaveSameRuns ms first (replaced ms (keep.height main) first)
  same_runs first found small texts e =
      let keeps : (x : Word) (t : ModuleTree) → Reach ms main x → module_named ms x ≡ Some t → ModuleKeeps with_number ms main keep x t =
      all_keep with_number ms main keep first found (main_keeps first e) in
      let text : IsTextModule first = texts main first found in
      let room : 1 + calls with_number (linker with_number ms (keep.height main)) first.body ≤ size (size_of ms (keep.height main)) first.body =
      calls_in_size with_number ms (λ x t f. (texts x t f).block) (keep.height main) first text.block in
      have_same_runs ms (Reach ms main) keep.height first (keep.height main)
      (λ x t r f. module_fits x t r f (texts x t f) (keeps x t r f))
      (record {
        fit = module_fits main first (itself main) found text (main_keeps first e);
        room = within _ _ room small.size;
        plain_params = text.plain_params;
        inner_own = text.inner;
        inner_called = λ x t f. (texts x t f).inner;
        unbroken = e;
      })
    where
      within : (a b : ℕ) → a ≤ b → b ≤ 65536 → a ≤ 2 ^ 32
      within a b g h = omega (arith, g, h)

pub means_the_same : LinkedMeansTheSame
means_the_same ms main whole h texts e =
    subst (HaveSameRuns ms h.first) (sym h.linked) (same_runs ms main h.calls h.first h.found h.small texts (ap module_name_breaks (sym h.linked) ∙ e))
