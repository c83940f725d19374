-- Runs of a module with calls are the runs of the linked module. What stands for a call of a module below a height is its
-- body, by induction on how deep calls go; then the main module's body is that of the linked one, and their runs are the same
-- by the law of runs.
use Rattle.std.proofs.Common.{◌≡◌, ◌<◌, ◌≤◌, ℕ, zero, suc, ◌+◌, ℤ, Bool, true, false, List, [], ◌∷◌, ◌++◌, length, map, Option, Some, None, unwrap_or, if◌then◌else◌, refl, sym, ap, ap₂, ◌∙◌, subst, arith}
use Rattle.std.specs.Prelude.{slice_get}
use Rattle.std.specs.Str.{bytes_eq}
use Rattle.quartz_tree.specs.declared.surface.Arg.{Arg}
use Rattle.quartz_tree.specs.declared.declare.Decl.{Decl}
use Rattle.quartz_tree.specs.declared.declare.Flow.TheVariants.{Inner}
use Rattle.quartz_tree.specs.declared.declare.Var.{Var}
use Rattle.quartz_tree.specs.declared.fault.Fault.{Fault}
use Rattle.quartz_tree.specs.Kernel.{Kernel}
use Rattle.quartz_tree.specs.Surfaces.{Word, Written, empty, ModuleTree}
use Rattle.quartz_tree.specs.Expand.{expanded}
use Rattle.quartz_expr.specs.Vars.{Vars}
use Rattle.quartz_expr.specs.Terms.{term_of}
use Rattle.quartz_expr.specs.Runs as plain
use Rattle.quartz_expr.proofs.TruthLemmas.{none_left}
use Rattle.quartz_expr.proofs.LawLemmas.{statement_fresh}
use Rattle.quartz_names.specs.Scopes.{Scope, declared, standing, no_names}
use Rattle.quartz_names.specs.Numbering.{locals, numbered}
use Rattle.quartz_names.specs.NameRules.{name_breaks, repeated}
use Rattle.quartz_names.specs.Resolving.{body_scope, resolved_vars, resolved_body, declarations, variables_from, module_name_breaks}
use Rattle.quartz_names.specs.Starts.{start_value}
use Rattle.quartz_names.specs.Targets.{is_among, next_targets}
use Rattle.framed_terms.specs.Framed.{Framed, Meaning, Meanings}
use Rattle.framed_terms.specs.Framed as framed
use Rattle.framed_terms.specs.FramedRuns.{Runs}
use Rattle.framed_terms.specs.Similar.{Carry, carried, inner, Sim, s_call, Suits, LikeTypes, IsLike}
use Rattle.framed_runs.specs.Parameters.{Heads, Alike, AllAlike, AllInner, front}
use Rattle.framed_runs.proofs.WholeLemmas.{whole, front_is, front_at}
use Rattle.framed_runs.proofs.RunLemmas.{same_runs}
use Rattle.linked_trees.specs.Naming.{module_named}
use Rattle.linked_trees.specs.Framing.{framed_as, numbers_of, meaning_of, meaning_if, meanings_of}
use Rattle.linked_trees.specs.Linking.{spelled_args, passes, Linker, calls, linked, called_block, called_calls, linker, linked_module}
use Rattle.linked_trees.proofs.NameLemmas.{Has, has_parts}
use Rattle.linked_trees.specs.Dotted.{Dots}
use Rattle.linked_trees.specs.Fit.{IsCall, Calls, AllCalls, ArgsSuit, AllPlain, AreInner}
use Rattle.linked_trees.specs.Laws.{IsMain}
use Rattle.linked_trees.proofs.ScopeLemmas.{Scopes, like_at, equal_names}
use Rattle.linked_trees.proofs.CallLemmas.{called_scopes, has_all, has_length, same_many}
use Rattle.linked_trees.proofs.InnerLemmas.{module_inner}
use Rattle.linked_trees.proofs.LinkLemmas.{Serves, link_sim}

-- ---- declarations and variables

variables_append : (ts : List ℕ) (n : ℕ) (ds es : List Decl) → variables_from ts n (ds ++ es) ≡ variables_from ts n ds ++ variables_from ts (n + length ds) es
variables_append ts n [] es = let e : n ≡ n + 0 = omega arith in ap (λ (i : ℕ). variables_from ts i es) e
variables_append ts n (d ∷ ds) es =
    let e : n + 1 + length ds ≡ n + suc (length ds) = omega arith in
    ap (λ (l : Vars). record { decl = d; delayed = is_among ts n; start = start_value d } ∷ l) (variables_append ts (n + 1) ds es ∙ ap (λ (i : ℕ). variables_from ts (n + 1) ds ++ variables_from ts i es) e)

all_alike : (ts us : List ℕ) (n : ℕ) (ds : List Decl) → AllAlike (variables_from ts n ds) (variables_from us n ds)
all_alike ts us n [] = tt
all_alike ts us n (d ∷ ds) = (record { ty = refl; storage = refl; flow = refl; place = refl; start = refl }, all_alike ts us (n + 1) ds)

all_inner : (ts : List ℕ) (n : ℕ) (ds : List Decl) → AreInner ds → AllInner (variables_from ts n ds)
all_inner ts n [] a = tt
all_inner ts n (d ∷ ds) a = (a.0, all_inner ts (n + 1) ds a.1)

pub locals_have : (m : ModuleTree) → Has (resolved_vars m) (length m.params) (locals (expanded m.body))
locals_have m =
    let e : 0 + length m.params ≡ length m.params = omega arith in
    subst (λ (i : ℕ). Has (resolved_vars m) i (locals (expanded m.body))) e (has_parts (resolved_vars m) 0 m.params _ (has_all (next_targets (resolved_body m)) (declarations m))).1

pub params_have : (m : ModuleTree) → Has (resolved_vars m) 0 m.params
params_have m = (has_parts (resolved_vars m) 0 m.params _ (has_all (next_targets (resolved_body m)) (declarations m))).0

some_length : (ds es : List Decl) → length ds ≤ length (ds ++ es)
some_length [] es = omega arith
some_length (d ∷ ds) es = let h = some_length ds es in omega (arith, h)

params_fit : (m : ModuleTree) → length m.params ≤ length (resolved_vars m)
params_fit m =
    let e : length (resolved_vars m) ≡ length (declarations m) = has_length (next_targets (resolved_body m)) 0 (declarations m) in
    let h : length m.params ≤ length (declarations m) = some_length m.params _ in
    omega (arith, e, h)

module _ (is_plain : Word → Bool) (dotted : Word → ℕ → Word) (most : ℕ) (ms : List ModuleTree) (counts : Word → Type 0) (height : Word → ℕ)
    (all_calls : AllCalls is_plain ms counts height) where
  module _ (ws : Vars) (dots : Dots is_plain dotted most) where
    called_sim : (k : Linker dotted) (top : ℕ) (o : Option ℕ) (vs : Vars) (c : ℕ) (sc all : Scope) (s : Word → Word) (f : Carry) (n l : ℕ) (m : Word) (args : List Arg) (t : ModuleTree) → Serves is_plain dotted most ms counts height ws dots k (height m)
        → Scopes is_plain dotted most (meanings_of ms) ws o vs c sc all s f n l → counts m → module_named ms m ≡ Some t → ArgsSuit vs sc t.params args → c + suc (calls dotted k t.body) ≤ most
        → Has ws l (locals (expanded (called_block dotted k (Some t) (spelled_args s args) c))) → name_breaks all l (expanded (called_block dotted k (Some t) (spelled_args s args) c)) ≡ []
        → Sim (meanings_of ms) ws vs f (framed.call m (numbers_of sc args)) (term_of (numbered all l (expanded (called_block dotted k (Some t) (spelled_args s args) c))))
    called_sim k top o vs c sc all s f n l m args t serves b counted found a room q e =
        let is_meaning : meanings_of ms m ≡ meaning_of t = ap meaning_if found in
        let start = called_scopes is_plain dotted most (meanings_of ms) ws dots o vs (resolved_vars t) c sc all s f n l t.params args b (omega (arith, room)) a (params_have t) in
        let many : length (numbers_of sc args) ≡ length t.params = same_many vs sc t.params args a in
        let long : length t.params ≤ length (resolved_vars t) = params_fit t in
        let body : Sim (meanings_of ms) ws (resolved_vars t) (inner f (numbers_of sc args)) (meaning_of t).body (term_of (numbered all l (expanded (called_block dotted k (Some t) (spelled_args s args) c)))) =
        link_sim is_plain dotted most ms counts height ws dots k (height m) serves t.body (Some c) (resolved_vars t) (suc c) (body_scope t) all _ (inner f (numbers_of sc args)) (length t.params) l start (all_calls m t counted found) (omega (arith, room)) (locals_have t) q e in
        s_call vs f m (numbers_of sc args) _
        (record {
          types = subst (λ (u : Meaning). LikeTypes (meanings_of ms) ws u.vars (inner f (numbers_of sc args))) (sym is_meaning) start.types;
          few = subst (λ (u : Meaning). length (numbers_of sc args) ≤ length u.vars) (sym is_meaning) (omega (arith, many, long));
        })
        (statement_fresh (numbered all l (expanded (called_block dotted k (Some t) (spelled_args s args) c))))
        (subst (λ (u : Meaning). Sim (meanings_of ms) ws u.vars (inner f (numbers_of sc args)) u.body (term_of (numbered all l (expanded (called_block dotted k (Some t) (spelled_args s args) c))))) (sym is_meaning) body)

    -- so many calls deep, all calls of lower modules are what stands for them
    serve : (d top : ℕ) → top ≤ d → Serves is_plain dotted most ms counts height ws dots (linker dotted ms d) top
    serve zero top h o vs c sc all s f n l m args b i room q e = absurd (omega (arith, h, i.lower))
    serve (suc d) top h o vs c sc all s f n l m args b i room q e =
        subst (λ (x : Option ModuleTree). c + suc (called_calls dotted (linker dotted ms d) x) ≤ most →
        Has ws l (locals (expanded (called_block dotted (linker dotted ms d) x (spelled_args s args) c))) → name_breaks all l (expanded (called_block dotted (linker dotted ms d) x (spelled_args s args) c)) ≡ []
        → Sim (meanings_of ms) ws vs f (framed.call m (numbers_of sc args)) (term_of (numbered all l (expanded (called_block dotted (linker dotted ms d) x (spelled_args s args) c)))))
        (sym i.found)
        (called_sim (linker dotted ms d) top o vs c sc all s f n l m args i.called (serve d (height m) (omega (arith, h, i.lower))) b i.counted i.found i.suits) room q e

  -- ---- the main module

  if_near : (i : ℕ) (b : Bool) (o : Option ℕ) (y : ℕ) → ((y : ℕ) → o ≡ Some y → y < i) → (if b then Some i else o) ≡ Some y → y < i + 1
  if_near i true o y h e = let j : i ≡ y = ap (λ (o : Option ℕ). unwrap_or o 0) e in omega (arith, j)
  if_near i false o y h e = let j = h y e in omega (arith, j)

  declared_near : (sc : Scope) (i : ℕ) (ps : List Decl) (x : Word) (z : ℕ) → ((y : ℕ) → sc x ≡ Some y → y < i) → declared sc i ps x ≡ Some z → z < i + length ps
  declared_near sc i [] x z h e = let g : z < i = h z e in omega (arith, g)
  declared_near sc i (p ∷ ps) x z h e =
      let g : z < i + 1 + length ps = declared_near (standing sc p.name (Some i)) (i + 1) ps x z (λ y u. if_near i (bytes_eq p.name x) (sc x) y h u) e in
      omega (arith, g)

  -- a name that is declared is plain
  declared_plain : (sc : Scope) (i : ℕ) (ps : List Decl) (x : Word) (z : ℕ) → AllPlain is_plain ps → ((y : ℕ) → sc x ≡ Some y → is_plain x ≡ true) → declared sc i ps x ≡ Some z → is_plain x ≡ true
  declared_plain sc i [] x z p h e = h z e
  declared_plain sc i (d ∷ ds) x z p h e = declared_plain (standing sc d.name (Some i)) (i + 1) ds x z p.1 (λ y u. at (bytes_eq d.name x) (equal_names d.name x) y u) e
    where
      at : (b : Bool) → (b ≡ true → d.name ≡ x) → (y : ℕ) → (if b then Some i else sc x) ≡ Some y → is_plain x ≡ true
      at true g y u = subst (λ (w : Word). is_plain w ≡ true) (g refl) p.0
      at false g y u = h y u

  abbrev heads : (main : ModuleTree) (d : ℕ) → IsMain is_plain dotted most ms counts height main d → Heads (resolved_vars main) (resolved_vars (linked_module dotted ms d main))
  heads main d h =
      let whole_module : ModuleTree = linked_module dotted ms d main in
      record {
        params = variables_from (next_targets (resolved_body main)) 0 main.params;
        firsts = variables_from (next_targets (resolved_body whole_module)) 0 main.params;
        locals = variables_from (next_targets (resolved_body main)) (0 + length main.params) (locals (expanded main.body));
        others = variables_from (next_targets (resolved_body whole_module)) (0 + length main.params) (locals (expanded whole_module.body));
        left = variables_append (next_targets (resolved_body main)) 0 main.params (locals (expanded main.body));
        right = variables_append (next_targets (resolved_body whole_module)) 0 main.params (locals (expanded whole_module.body));
        alike = all_alike _ _ 0 main.params;
        inner_left = all_inner _ _ _ h.inner_own;
        inner_right = all_inner _ _ _ (module_inner dotted ms d main h.inner_called h.inner_own);
      }

  front_agrees : (n : ℕ) (o : Option ℕ) → ((z : ℕ) → o ≡ Some z → z < n) → o ≡ carried (front n) o
  front_agrees n None h = refl
  front_agrees n (Some z) h = sym (front_at n z (h z refl))

  module _ (main : ModuleTree) (d : ℕ) (h : IsMain is_plain dotted most ms counts height main d) (dots : Dots is_plain dotted most) where
    near : (x : Word) (z : ℕ) → body_scope main x ≡ Some z → z < length main.params
    near x z e = let g : z < 0 + length main.params = declared_near no_names 0 main.params x z (λ y u. absurd (cc)) e in omega (arith, g)

    plain_name : (x : Word) (z : ℕ) → body_scope main x ≡ Some z → is_plain x ≡ true
    plain_name x z e = declared_plain no_names 0 main.params x z h.plain_params (λ y u. absurd (cc)) e

    count : length (variables_from (next_targets (resolved_body main)) 0 main.params) ≡ length main.params
    count = has_length (next_targets (resolved_body main)) 0 main.params

    main_scopes : Scopes is_plain dotted most (meanings_of ms) (resolved_vars (linked_module dotted ms d main)) None (resolved_vars main) 1 (body_scope main) (body_scope main) (λ x. x) (front (length main.params)) (length main.params) (length main.params)
    main_scopes = record {
      agree = λ x. front_agrees (length main.params) (body_scope main x) (near x);
      fresh = λ x m e b. unnamed (dotted x m) (body_scope main (dotted x m)) refl (λ p. dots.apart (dotted x m) x m p refl);
      own = λ x y e. e;
      old = λ x y m z e g b u. dots.apart x y m (plain_name x z e) u;
      early = λ y x m p e b u. dots.apart y x m p u;
      near = near;
      below = λ z w e. let g = front_is (length main.params) z w e in subst (λ (i : ℕ). i < length main.params) g.1 g.0;
      types = subst (λ (n : ℕ). LikeTypes (meanings_of ms) (resolved_vars (linked_module dotted ms d main)) (resolved_vars main) (front n)) count
          ((whole (meanings_of ms) (resolved_vars main) (resolved_vars (linked_module dotted ms d main)) (heads main d h)).agrees [] []).types;
    }
      where
        unnamed : (x : Word) (o : Option ℕ) → body_scope main x ≡ o → (is_plain x ≡ true → ⊥) → body_scope main x ≡ None
        unnamed x None e g = e
        unnamed x (Some z) e g = absurd (g (plain_name x z e))

    main_sim : Sim (meanings_of ms) (resolved_vars (linked_module dotted ms d main)) (resolved_vars main) (front (length main.params)) (meaning_of main).body (term_of (resolved_body (linked_module dotted ms d main)))
    main_sim =
        let e = none_left (repeated main.params) _ h.unbroken in
        link_sim is_plain dotted most ms counts height (resolved_vars (linked_module dotted ms d main)) dots (linker dotted ms d) d (serve (resolved_vars (linked_module dotted ms d main)) dots d d (omega arith)) main.body None (resolved_vars main) 1
        (body_scope main) (body_scope main) (λ x. x) (front (length main.params)) (length main.params) (length main.params) main_scopes h.fit h.room (locals_have main) (locals_have (linked_module dotted ms d main)) e.1

    -- Theorem L
    pub same_meaning : (ins outs : List (List (List ℤ))) (end : Option Fault)
        → (Runs (meanings_of ms) (meaning_of main) ins outs end → plain.Runs (resolved_vars (linked_module dotted ms d main)) (resolved_body (linked_module dotted ms d main)) ins outs end)
        × (plain.Runs (resolved_vars (linked_module dotted ms d main)) (resolved_body (linked_module dotted ms d main)) ins outs end → Runs (meanings_of ms) (meaning_of main) ins outs end)
    same_meaning ins outs end =
        same_runs (meanings_of ms) (meaning_of main) (resolved_vars (linked_module dotted ms d main)) (resolved_body (linked_module dotted ms d main)) (heads main d h)
        (subst (λ (n : ℕ). Sim (meanings_of ms) (resolved_vars (linked_module dotted ms d main)) (resolved_vars main) (front n) (meaning_of main).body (term_of (resolved_body (linked_module dotted ms d main)))) (sym count) main_sim)
        ins outs end
