-- Distances by levels, and the path along which they fall.
use Rattle.std.proofs.Common.{◌≡◌, ◌≢◌, ℕ, zero, suc, ◌+◌, ◌<◌, ◌≤◌, ◌⊎◌, inl, inr, Option, Some, None, List, [], ◌∷◌, ◌++◌, length, replicate, Contains, refl, sym, ap, subst, ◌∙◌, arith, get_or, set, append_assoc}
use Rattle.std.proofs.lemmas.Bool.{cases_eq, cases_lt}
use Rattle.std.proofs.lemmas.List.{get_or-set_same, get_or-set_other, length-set, length_push, length-replicate, get_or_past, append-nil}
use Rattle.std.proofs.lemmas.List.Elements.{Contains-append_cases, Contains-append_left, Contains-append_right, Contains-push, Contains-push_cases}
use Rattle.aif_cells.specs.Order.{IsNotAfter}
use Rattle.causality_check.specs.Graph.{row, Needs, IsClosed, Walk, Reaches, IsOnCycle}
use Rattle.causality_check.specs.Search.{AreComponents}
use Rattle.causality_check.specs.Shortest.{AreDistances, AreLevels, AreMarked, AreUsers, AreUsersBelow, DistanceIs, HaveUser, IsBestPath, IsDistance, IsLeastOnCycle, IsNearest, IsNearestAmong, IsUnderway, Leads, NearestIs, NeedsOwn, RanksFall, count_none, distance_at, users_of}
use Rattle.causality_check.specs.Turns.{AllLeftAreHeldUp}
use Rattle.causality_check.proofs.TurnLemmas.{row_push, row_push_kept, row_pushed}
use Rattle.causality_check.proofs.GraphLemmas.{in_one, not_in_none, row_within}
use Rattle.aif_cells.proofs.ItemLemmas.{in_first, in_others, in_cases}

none_is_not_some : (d : ℕ) → None ≡ Some d → ⊥
none_is_not_some d e = cc

some_same : (a b : ℕ) → Some a ≡ Some b → a ≡ b
some_same a b e = cc

-- ---- cells get distances

pub marked_none : (level : ℕ) (ds : List (Option ℕ)) (list : List ℕ) → AreMarked [] level ds ds list list
marked_none level ds list = record {
  count = refl;
  same_length = refl;
  kept = λ k d e. e;
  marked = λ k c. absurd (not_in_none k c);
  fresh = λ k d e. inl e;
  listed = λ k c. inl c;
  grows = λ k c. c;
}

pub marked_then : (ks ls : List ℕ) (level : ℕ) (a b c : List (Option ℕ)) (x y z : List ℕ) → AreMarked ks level a b x y → AreMarked ls level b c y z → AreMarked (ks ++ ls) level a c x z
marked_then ks ls level a b c x y z p q = record {
  count = omega (arith, p.count, q.count);
  same_length = q.same_length ∙ p.same_length;
  kept = λ k d e. q.kept k d (p.kept k d e);
  marked = λ k m. elim (Contains-append_cases ks ls k m) [ inl o ↦ (let r : (d : ℕ) × (distance_at b k ≡ Some d) = p.marked k o in (r.0, q.kept k r.0 r.1)) | inr o ↦ q.marked k o ];
  fresh = λ k d e. elim (q.fresh k d e) [
    | inl o ↦ elim (p.fresh k d o) [ inl n ↦ inl n | inr n ↦ inr (n.0, Contains-append_left ks ls k n.1, q.grows k n.2) ]
    | inr n ↦ inr (n.0, Contains-append_right ks ls k n.1, n.2)
  ];
  listed = λ k m. elim (q.listed k m) [
    | inl o ↦ elim (p.listed k o) [ inl n ↦ inl n | inr n ↦ inr (n.0, q.kept k level n.1) ]
    | inr n ↦ inr (none_before (distance_at a k) k refl n.0, n.1)
  ];
  grows = λ k m. q.grows k (p.grows k m);
}
  where
    none_before : (o : Option ℕ) (k : ℕ) → distance_at a k ≡ o → distance_at b k ≡ None → distance_at a k ≡ None
    none_before None k e f = e
    none_before (Some d) k e f = absurd (none_is_not_some d (sym f ∙ p.kept k d e))

count_set : (ds : List (Option ℕ)) (k n : ℕ) → k < length ds → distance_at ds k ≡ None → count_none (set ds k (Some n)) + 1 ≡ count_none ds
count_set [] k n h e = absurd (omega (arith, h))
count_set (None ∷ ds) zero n h e = omega arith
count_set (Some d ∷ ds) zero n h e = absurd (none_is_not_some d (sym e))
count_set (d ∷ ds) (suc k) n h e = let q : count_none (set ds k (Some n)) + 1 ≡ count_none ds = count_set ds k n (omega (arith, h)) e in omega (arith, q)

-- a cell without a distance gets one
pub marked_new : (k level : ℕ) (ds : List (Option ℕ)) (list : List ℕ) → k < length ds → distance_at ds k ≡ None → AreMarked (k ∷ []) level ds (set ds k (Some level)) list (list ++ k ∷ [])
marked_new k level ds list h e =
    let same : distance_at (set ds k (Some level)) k ≡ Some level = get_or-set_same ds k (Some level) None h in
    let other : (j : ℕ) → j ≢ k → distance_at (set ds k (Some level)) j ≡ distance_at ds j = λ j ne. get_or-set_other ds k j (Some level) None ne in
    record {
      count = (let q : count_none (set ds k (Some level)) + 1 ≡ count_none ds = count_set ds k level h e in let l : length (list ++ k ∷ []) ≡ length list + 1 = length_push list k in omega (arith, q, l));
      same_length = length-set ds k (Some level);
      kept = λ j d f. other j (λ q. none_is_not_some d (sym e ∙ (ap (distance_at ds) (sym q) ∙ f))) ∙ f;
      marked = λ j c. (level, ap (distance_at (set ds k (Some level))) (sym (in_one k j c)) ∙ same);
      fresh = λ j d f. elim (cases_eq j k) [
        | inl q ↦ inr (sym (some_same level d (sym same ∙ (ap (distance_at (set ds k (Some level))) (sym q) ∙ f))), subst (Contains (k ∷ [])) (sym q) (in_first k []), subst (Contains (list ++ k ∷ [])) (sym q) (Contains-push list k))
        | inr ne ↦ inl (sym (other j ne) ∙ f)
      ];
      listed = λ j c. elim (Contains-push_cases list k j c) [ inl o ↦ inl o | inr q ↦ inr (ap (distance_at ds) (sym q) ∙ e, ap (distance_at (set ds k (Some level))) (sym q) ∙ same) ];
      grows = λ j c. Contains-append_left list (k ∷ []) j c;
    }

-- a cell with a distance keeps it
pub marked_old : (k d level : ℕ) (ds : List (Option ℕ)) (list : List ℕ) → distance_at ds k ≡ Some d → AreMarked (k ∷ []) level ds ds list list
marked_old k d level ds list e = record {
  count = refl;
  same_length = refl;
  kept = λ j d e. e;
  marked = λ j c. (d, ap (distance_at ds) (sym (in_one k j c)) ∙ e);
  fresh = λ j d e. inl e;
  listed = λ j c. inl c;
  grows = λ j c. c;
}

-- ---- one level more

users_from : (users : List (List ℕ)) (cs : List ℕ) (k : ℕ) → Contains (users_of users cs) k → (c : ℕ) × Contains cs c × Contains (row users c) k
users_from users [] k h = absurd (not_in_none k h)
users_from users (c ∷ cs) k h = elim (Contains-append_cases (row users c) (users_of users cs) k h) [
  | inl o ↦ (c, in_first c cs, o)
  | inr o ↦ (let r : (d : ℕ) × Contains cs d × Contains (row users d) k = users_from users cs k o in (r.0, in_others c cs r.0 r.1, r.2))
]

users_all : (users : List (List ℕ)) (cs : List ℕ) (c k : ℕ) → Contains cs c → Contains (row users c) k → Contains (users_of users cs) k
users_all users [] c k h u = absurd (not_in_none c h)
users_all users (b ∷ cs) c k h u = elim (in_cases b cs c h) [
  | inl e ↦ Contains-append_left (row users b) (users_of users cs) k (subst (λ (m : ℕ). Contains (row users m) k) (sym e) u)
  | inr o ↦ Contains-append_right (row users b) (users_of users cs) k (users_all users cs c k o u)
]

pub users_push : (users : List (List ℕ)) (cs : List ℕ) (c : ℕ) → users_of users (cs ++ c ∷ []) ≡ users_of users cs ++ row users c
users_push users [] c = append-nil (row users c)
users_push users (b ∷ cs) c = ap (λ (xs : List ℕ). row users b ++ xs) (users_push users cs c) ∙ sym (append_assoc (row users b) (users_of users cs) (row users c))

step_walk : (g : List (List ℕ)) (k c n goal : ℕ) → Needs g k c → Walk g n c goal → Walk g (suc n) k goal
step_walk g k c n goal n_c w = (c, n_c, w)

-- a cell at a distance below the level, through one that it needs
next_known : (g : List (List ℕ)) (goal : ℕ) (ds : List (Option ℕ)) (front : List ℕ) (level k c d : ℕ) → AreLevels g goal ds front level → Needs g k c → distance_at ds c ≡ Some d → d < level → (e : ℕ) × (distance_at ds k ≡ Some e)
next_known g goal ds front level k c d p needs e lt = p.all k (suc d) (omega (arith, lt)) (step_walk g k c d goal needs (p.exact c d e).way)

pub next_level : (g users : List (List ℕ)) (goal : ℕ) (ds new : List (Option ℕ)) (front next : List ℕ) (level : ℕ) → AreUsers g users → 0 < length front → AreLevels g goal ds front level → AreMarked (users_of users front) (level + 1) ds new [] next → AreLevels g goal new next (level + 1)
next_level g users goal ds new front next level us some p q =
    let was_none : (k : ℕ) → Contains next k → distance_at ds k ≡ None = λ k c. elim (q.listed k c) [ inl o ↦ absurd (not_in_none k o) | inr o ↦ o.0 ] in
    record {
      count = q.same_length ∙ p.count;
      exact = λ k d e. elim (q.fresh k d e) [
        | inl o ↦ p.exact k d o
        | inr o ↦ subst (IsDistance g goal k) (sym o.0) (
            let r : (c : ℕ) × Contains front c × Contains (row users c) k = users_from users front k o.1 in
            let one : suc level ≡ level + 1 = omega arith in
            record {
              way = subst (λ (n : ℕ). Walk g n k goal) one (step_walk g k r.0 level goal (us.from r.0 k r.2) (p.exact r.0 level (p.listed r.0 r.1)).way);
              least = λ m w. elim (cases_lt level m) [
                | inl lt ↦ omega (arith, lt)
                | inr le ↦ (let s : (d : ℕ) × (distance_at ds k ≡ Some d) = p.all k m le w in absurd (none_is_not_some s.0 (sym (was_none k o.2) ∙ s.1)))
              ];
            })
      ];
      upto = λ k d e. elim (q.fresh k d e) [ inl o ↦ (let le : d ≤ level = p.upto k d o in omega (arith, le)) | inr o ↦ omega (arith, o.0) ];
      all = λ k m le w. elim (cases_lt level m) [
        | inl lt ↦ (let one : m ≡ suc level = omega (arith, le, lt) in reached k (subst (λ (n : ℕ). Walk g n k goal) one w))
        | inr old ↦ (let s : (d : ℕ) × (distance_at ds k ≡ Some d) = p.all k m old w in (s.0, q.kept k s.0 s.1))
      ];
      listed = λ k c. elim (q.listed k c) [ inl o ↦ absurd (not_in_none k o) | inr o ↦ o.1 ];
      fronts = λ k e. elim (q.fresh k (level + 1) e) [ inl o ↦ (let le : level + 1 ≤ level = p.upto k (level + 1) o in absurd (omega (arith, le))) | inr o ↦ o.2 ];
      room = omega (arith, q.count, p.room, some);
    }
  where
    reached : (k : ℕ) → Walk g (suc level) k goal → (d : ℕ) × (distance_at new k ≡ Some d)
    reached k w =
        let s : (d : ℕ) × (distance_at ds w.0 ≡ Some d) = p.all w.0 level (omega arith) w.2 in
        elim (cases_eq s.0 level) [
          | inl e ↦ q.marked k (users_all users front w.0 k (p.fronts w.0 (s.1 ∙ ap Some e)) (us.all w.0 k (in_g w.0 s.0 s.1) w.1))
          | inr ne ↦ (let le : s.0 ≤ level = p.upto w.0 s.0 s.1 in let r : (d : ℕ) × (distance_at ds k ≡ Some d) = next_known g goal ds front level k w.0 s.0 p w.1 s.1 (omega (arith, le, ne)) in (r.0, q.kept k r.0 r.1))
        ]
      where
        in_g : (c d : ℕ) → distance_at ds c ≡ Some d → c < length g
        in_g c d e = elim (cases_lt c (length ds)) [ inl lt ↦ omega (arith, lt, p.count) | inr ge ↦ absurd (none_is_not_some d (sym (get_or_past ds c None ge) ∙ e)) ]

-- where the front is empty all distances are known
known : (g : List (List ℕ)) (goal : ℕ) (ds : List (Option ℕ)) (level : ℕ) → AreLevels g goal ds [] level → (m k : ℕ) → Walk g m k goal → (d : ℕ) × (distance_at ds k ≡ Some d)
known g goal ds level p zero k w = p.all k zero (omega arith) w
known g goal ds level p (suc m) k w =
    let s : (d : ℕ) × (distance_at ds w.0 ≡ Some d) = known g goal ds level p m w.0 w.2 in
    let le : s.0 ≤ level = p.upto w.0 s.0 s.1 in
    elim (cases_eq s.0 level) [
      | inl e ↦ absurd (not_in_none w.0 (p.fronts w.0 (s.1 ∙ ap Some e)))
      | inr ne ↦ next_known g goal ds [] level k w.0 s.0 p w.1 s.1 (omega (arith, le, ne))
    ]

pub all_known : (g : List (List ℕ)) (goal : ℕ) (ds : List (Option ℕ)) (front : List ℕ) (level : ℕ) → front ≡ [] → AreLevels g goal ds front level → AreDistances g goal ds
all_known g goal ds front level e p = record {
  count = p.count;
  each = λ k h. go k (distance_at ds k) refl;
}
  where
    go : (k : ℕ) (o : Option ℕ) → distance_at ds k ≡ o → DistanceIs g goal k o
    go k (Some d) f = p.exact k d f
    go k None f = λ m w. let s : (d : ℕ) × (distance_at ds k ≡ Some d) = known g goal ds level (subst (λ (xs : List ℕ). AreLevels g goal ds xs level) e p) m k w in none_is_not_some s.0 (sym f ∙ s.1)

nones : (n k : ℕ) → distance_at (replicate n None) k ≡ None
nones zero k = refl
nones (suc n) zero = refl
nones (suc n) (suc k) = nones n k

all_none : (n : ℕ) → count_none (replicate n None) ≡ n
all_none zero = refl
all_none (suc n) = omega (arith, all_none n)

-- the goal alone is at the distance 0
pub first_level : (g : List (List ℕ)) (goal : ℕ) (ds : List (Option ℕ)) → goal < length g → ds ≡ set (replicate (length g) None) goal (Some 0) → AreLevels g goal ds (goal ∷ []) 0
first_level g goal ds h e = subst (λ (ds : List (Option ℕ)). AreLevels g goal ds (goal ∷ []) 0) (sym e) (
    let n : ℕ = length g in
    let blank : List (Option ℕ) = replicate n None in
    let l : length blank ≡ n = length-replicate n None in
    let hb : goal < length blank = omega (arith, h, l) in
    let q : AreMarked (goal ∷ []) 0 blank (set blank goal (Some 0)) [] (goal ∷ []) = marked_new goal 0 blank [] hb (nones n goal) in
    let at_goal : (k d : ℕ) → distance_at (set blank goal (Some 0)) k ≡ Some d → (d ≡ 0) × (goal ≡ k) = λ k d f. elim (q.fresh k d f) [ inl o ↦ absurd (none_is_not_some d (sym (nones n k) ∙ o)) | inr o ↦ (o.0, in_one goal k o.1) ] in
    record {
      count = q.same_length ∙ l;
      exact = λ k d f. let r : (d ≡ 0) × (goal ≡ k) = at_goal k d f in subst (IsDistance g goal k) (sym r.0) (record { way = sym r.1; least = λ m w. omega arith });
      upto = λ k d f. omega (arith, (at_goal k d f).0);
      all = λ k m le w. let z : m ≡ 0 = omega (arith, le) in q.marked k (subst (Contains (goal ∷ [])) (sym (subst (λ (m : ℕ). Walk g m k goal) z w)) (in_first goal []));
      listed = λ k c. elim (q.listed k c) [ inl o ↦ absurd (not_in_none k o) | inr o ↦ o.1 ];
      fronts = λ k f. subst (Contains (goal ∷ [])) (at_goal k 0 f).1 (in_first goal []);
      room = (let c : count_none blank ≡ n = all_none n in omega (arith, q.count, c));
    })

-- ---- users

pub no_users : (g : List (List ℕ)) (k : ℕ) (users : List (List ℕ)) → HaveUser [] k users users
no_users g k users = record { same_length = refl; from = λ d j c. inl c; kept = λ d j c. c; new = λ d c. absurd (not_in_none d c) }

pub one_user : (users : List (List ℕ)) (needed : List ℕ) (d k : ℕ) (before : List (List ℕ)) → d < length users → HaveUser needed k before users → HaveUser (needed ++ d ∷ []) k before (set users d (row users d ++ k ∷ []))
one_user users needed d k before h p = record {
  same_length = length-set users d (row users d ++ k ∷ []) ∙ p.same_length;
  from = λ e j c. elim (row_push users d k e j h c) [
    | inl o ↦ elim (p.from e j o) [ inl n ↦ inl n | inr n ↦ inr (n.0, Contains-append_left needed (d ∷ []) e n.1) ]
    | inr o ↦ inr (o.1, subst (Contains (needed ++ d ∷ [])) (sym o.0) (Contains-push needed d))
  ];
  kept = λ e j c. row_push_kept users d k e j h (p.kept e j c);
  new = λ e c. elim (Contains-push_cases needed d e c) [
    | inl o ↦ row_push_kept users d k e k h (p.new e o)
    | inr q ↦ subst (λ (m : ℕ). Contains (row (set users d (row users d ++ k ∷ [])) m) k) q (row_pushed users d k h)
  ];
}

pub users_none : (g : List (List ℕ)) (users : List (List ℕ)) → users ≡ replicate (length g) [] → AreUsersBelow g 0 users
users_none g users e = record {
  count = ap length e ∙ length-replicate (length g) [];
  from = λ d k c. absurd (not_in_none k (subst (λ (xs : List ℕ). Contains xs k) (empty (length g) d) (subst (λ (u : List (List ℕ)). Contains (row u d) k) e c)));
  all = λ d k lt. absurd (omega (arith, lt));
}
  where
    empty : (n k : ℕ) → row (replicate n []) k ≡ []
    empty zero k = refl
    empty (suc n) zero = refl
    empty (suc n) (suc k) = empty n k

pub users_more : (g : List (List ℕ)) (k : ℕ) (before after : List (List ℕ)) (needed : List ℕ) → needed ≡ row g k → AreUsersBelow g k before → HaveUser needed k before after → AreUsersBelow g (k + 1) after
users_more g k before after needed e p q = record {
  count = q.same_length ∙ p.count;
  from = λ d j c. elim (q.from d j c) [ inl o ↦ p.from d j o | inr o ↦ subst (λ (m : ℕ). Needs g m d) (sym o.0) (subst (λ (xs : List ℕ). Contains xs d) e o.1) ];
  all = λ d j lt n. elim (cases_eq j k) [
    | inl f ↦ subst (Contains (row after d)) (sym f) (q.new d (subst (λ (xs : List ℕ). Contains xs d) (sym e) (subst (λ (m : ℕ). Needs g m d) f n)))
    | inr ne ↦ q.kept d j (p.all d j (omega (arith, lt, ne)) n)
  ];
}

pub users_end : (g : List (List ℕ)) (n : ℕ) (users : List (List ℕ)) → length g ≤ n → AreUsersBelow g n users → AreUsers g users
users_end g n users le p = record { count = p.count; from = p.from; all = λ d k h needs. p.all d k (let lt : k < length g = row_within g k d needs in omega (arith, lt, le)) needs }

-- ---- the nearest cell

pub nearest_none : (ds : List (Option ℕ)) → NearestIs ds [] None
nearest_none ds d c = absurd (not_in_none d c)

-- the sooner one of what was found and one more cell
pub nearest_skip : (ds : List (Option ℕ)) (ks : List ℕ) (x : ℕ) (o : Option (ℕ × ℕ)) → distance_at ds x ≡ None → NearestIs ds ks o → NearestIs ds (ks ++ x ∷ []) o
nearest_skip ds ks x None e p = λ d c. elim (Contains-push_cases ks x d c) [ inl a ↦ p d a | inr q ↦ ap (distance_at ds) (sym q) ∙ e ]
nearest_skip ds ks x (Some b) e p = record {
  among = Contains-append_left ks (x ∷ []) b.1 p.among;
  distance = p.distance;
  least = λ d m c f. elim (Contains-push_cases ks x d c) [ inl a ↦ p.least d m a f | inr q ↦ absurd (none_is_not_some m (sym (ap (distance_at ds) (sym q) ∙ e) ∙ f)) ];
}

pub nearest_first : (ds : List (Option ℕ)) (ks : List ℕ) (x n : ℕ) → distance_at ds x ≡ Some n → NearestIs ds ks None → NearestIs ds (ks ++ x ∷ []) (Some (n, x))
nearest_first ds ks x n e p = record {
  among = Contains-push ks x;
  distance = e;
  least = λ d m c f. elim (Contains-push_cases ks x d c) [ inl a ↦ absurd (none_is_not_some m (sym (p d a) ∙ f)) | inr q ↦ inr (some_same n m (sym e ∙ (ap (distance_at ds) q ∙ f)), omega (arith, q)) ];
}

pub nearest_sooner : (ds : List (Option ℕ)) (ks : List ℕ) (x n b j : ℕ) → distance_at ds x ≡ Some n → (n < b) ⊎ ((n ≡ b) × (x < j)) → NearestIs ds ks (Some (b, j)) → NearestIs ds (ks ++ x ∷ []) (Some (n, x))
nearest_sooner ds ks x n b j e sooner p = record {
  among = Contains-push ks x;
  distance = e;
  least = λ d m c f. elim (Contains-push_cases ks x d c) [
    | inl a ↦ elim (p.least d m a f) [
      | inl lt ↦ elim sooner [ inl s ↦ inl (omega (arith, lt, s)) | inr s ↦ inl (omega (arith, lt, s.0)) ]
      | inr q ↦ elim sooner [ inl s ↦ inl (omega (arith, q.0, s)) | inr s ↦ inr (s.0 ∙ q.0, omega (arith, q.1, s.1)) ]
    ]
    | inr q ↦ inr (some_same n m (sym e ∙ (ap (distance_at ds) q ∙ f)), omega (arith, q))
  ];
}

pub nearest_stays : (ds : List (Option ℕ)) (ks : List ℕ) (x n b j : ℕ) → distance_at ds x ≡ Some n → (b < n) ⊎ ((b ≡ n) × (j ≤ x)) → NearestIs ds ks (Some (b, j)) → NearestIs ds (ks ++ x ∷ []) (Some (b, j))
nearest_stays ds ks x n b j e later p = record {
  among = Contains-append_left ks (x ∷ []) j p.among;
  distance = p.distance;
  least = λ d m c f. elim (Contains-push_cases ks x d c) [
    | inl a ↦ p.least d m a f
    | inr q ↦ (let g : n ≡ m = some_same n m (sym e ∙ (ap (distance_at ds) q ∙ f)) in elim later [ inl s ↦ inl (omega (arith, s, g)) | inr s ↦ inr (s.0 ∙ g, omega (arith, s.1, q)) ])
  ];
}

-- what the distances say of the nearest cell
pub nearest_is : (g : List (List ℕ)) (goal k n j : ℕ) (ds : List (Option ℕ)) → IsClosed g → AreDistances g goal ds → IsNearestAmong ds (row g k) n j → IsNearest g goal k n j
nearest_is g goal k n j ds closed are p =
    let own : IsDistance g goal j n = subst (DistanceIs g goal j) p.distance (are.each j (closed k j p.among)) in
    record { needs = p.among; way = own.way; least = λ d m needs w. (least d m needs w).0; first = λ d needs w. (least d n needs w).1 refl }
  where
    at : (d m : ℕ) (o : Option ℕ) → Needs g k d → distance_at ds d ≡ o → DistanceIs g goal d o → Walk g m d goal → (n ≤ m) × (m ≡ n → j ≤ d)
    at d m None needs e is w = absurd (is m w)
    at d m (Some x) needs e is w = let le : x ≤ m = is.least m w in elim (p.least d x needs e) [
      | inl lt ↦ (omega (arith, lt, le), λ q. absurd (omega (arith, lt, le, q)))
      | inr q ↦ (omega (arith, q.0, le), λ r. q.1)
    ]

    least : (d m : ℕ) → Needs g k d → Walk g m d goal → (n ≤ m) × (m ≡ n → j ≤ d)
    least d m needs w = at d m (distance_at ds d) needs refl (are.each d (closed k d needs)) w

-- a cell from which a way leads has a nearest one
pub some_nearest : (g : List (List ℕ)) (goal k : ℕ) (ds : List (Option ℕ)) → IsClosed g → AreDistances g goal ds → NearestIs ds (row g k) None → (n : ℕ) → Walk g (suc n) k goal → ⊥
some_nearest g goal k ds closed are none n w = subst (DistanceIs g goal w.0) (none w.0 w.1) (are.each w.0 (closed k w.0 w.1)) n w.2

-- ---- paths

pub leads_walk : (g : List (List ℕ)) (goal k : ℕ) (path : List ℕ) → Leads g goal k path → Walk g (suc (length path)) k goal
leads_walk g goal k [] l = (goal, l, refl)
leads_walk g goal k (j ∷ path) l = (j, l.0, leads_walk g goal j path l.1)

walk_leads : (g : List (List ℕ)) (goal k n : ℕ) → Walk g (suc n) k goal → (path : List ℕ) × Leads g goal k path × (length path ≡ n)
walk_leads g goal k zero w = ([], subst (Needs g k) w.2 w.1, refl)
walk_leads g goal k (suc n) w = let r : (path : List ℕ) × Leads g goal w.0 path × (length path ≡ n) = walk_leads g goal w.0 n w.2 in (w.0 ∷ r.0, (w.1, r.1), ap suc r.2)

-- the goal itself is the nearest one
pub best_here : (g : List (List ℕ)) (goal k n j : ℕ) → j ≡ goal → IsNearest g goal k n j → IsBestPath g goal k []
best_here g goal k n j e p = record { leads = subst (Needs g k) e p.needs; shortest = λ other l. omega arith; first = λ other l q. tt }

-- the nearest one, and the best path from there
pub best_more : (g : List (List ℕ)) (goal k n j : ℕ) (path : List ℕ) → (j ≡ goal → ⊥) → IsNearest g goal k n j → IsBestPath g goal j path → IsBestPath g goal k (j ∷ path)
best_more g goal k n j path ne p q = record {
  leads = (p.needs, q.leads);
  shortest = shortest;
  first = first;
}
  where
    -- the path is one shorter than the distance
    len : (m : ℕ) → Walk g m j goal → suc (length path) ≤ m
    len zero w = absurd (ne w)
    len (suc m) w = let r : (xs : List ℕ) × Leads g goal j xs × (length xs ≡ m) = walk_leads g goal j m w in let le : length path ≤ length r.0 = q.shortest r.0 r.1 in omega (arith, le, r.2)

    at_goal : Needs g k goal → n ≡ 0
    at_goal needs = let le : n ≤ 0 = p.least goal 0 needs refl in omega (arith, le)

    shortest : (other : List ℕ) → Leads g goal k other → length (j ∷ path) ≤ length other
    shortest [] l = absurd (let z : n ≡ 0 = at_goal l in let a : suc (length path) ≤ n = len n p.way in omega (arith, z, a))
    shortest (d ∷ other) l = let a : suc (length path) ≤ n = len n p.way in let b : n ≤ suc (length other) = p.least d (suc (length other)) l.0 (leads_walk g goal d other l.1) in omega (arith, a, b)

    first : (other : List ℕ) → Leads g goal k other → length other ≡ length (j ∷ path) → IsNotAfter (j ∷ path) other
    first [] l e = absurd (omega (arith, e))
    first (d ∷ other) l e =
        let a : suc (length path) ≤ n = len n p.way in
        let w : Walk g (suc (length other)) d goal = leads_walk g goal d other l.1 in
        let b : n ≤ suc (length other) = p.least d (suc (length other)) l.0 w in
        let f : suc (length other) ≡ n = omega (arith, a, b, e) in
        let le : j ≤ d = p.first d l.0 (subst (λ (m : ℕ). Walk g m d goal) f w) in
        elim (cases_eq j d) [
          | inl q_d ↦ inr (q_d, q.first other (subst (λ (m : ℕ). Leads g goal m other) (sym q_d) l.1) (omega (arith, e)))
          | inr other_d ↦ inl (omega (arith, le, other_d))
        ]

-- ---- the least cell on a cycle

walk_falls : (g : List (List ℕ)) (ranks : List ℕ) (n a b : ℕ) → AreComponents g ranks → Walk g n a b → get_or ranks b 0 ≤ get_or ranks a 0
walk_falls g ranks zero a b p w = let e : get_or ranks a 0 ≡ get_or ranks b 0 = ap (λ (m : ℕ). get_or ranks m 0) w in omega (arith, e)
walk_falls g ranks (suc n) a b p w = let x : get_or ranks w.0 0 ≤ get_or ranks a 0 = p.falls a w.0 w.1 in let y : get_or ranks b 0 ≤ get_or ranks w.0 0 = walk_falls g ranks n w.0 b p w.2 in omega (arith, x, y)

pub own_is_on_cycle : (g : List (List ℕ)) (ranks : List ℕ) (k : ℕ) → AreComponents g ranks → NeedsOwn ranks k (row g k) → IsOnCycle g k
own_is_on_cycle g ranks k p o = let r : Reaches g o.0 k = p.leads_back k o.0 o.1 o.2 in (r.0, (o.0, o.1, r.1))

on_cycle_needs_own : (g : List (List ℕ)) (ranks : List ℕ) (k : ℕ) → AreComponents g ranks → IsOnCycle g k → NeedsOwn ranks k (row g k)
on_cycle_needs_own g ranks k p c =
    let x : get_or ranks c.1.0 0 ≤ get_or ranks k 0 = p.falls k c.1.0 c.1.1 in
    let y : get_or ranks k 0 ≤ get_or ranks c.1.0 0 = walk_falls g ranks c.0 c.1.0 k p c.1.2 in
    (c.1.0, c.1.1, omega (arith, x, y))

pub least_is : (g : List (List ℕ)) (ranks : List ℕ) (k : ℕ) → AreComponents g ranks → NeedsOwn ranks k (row g k) → ((j : ℕ) → j < k → NeedsOwn ranks j (row g j) → ⊥) → IsLeastOnCycle g k
least_is g ranks k p own none = record {
  on_cycle = own_is_on_cycle g ranks k p own;
  least = λ j c. elim (cases_lt j k) [ inl lt ↦ absurd (none j lt (on_cycle_needs_own g ranks j p c)) | inr ge ↦ ge ];
}

pub ranks_fall : (g : List (List ℕ)) (ranks : List ℕ) (n : ℕ) → length g ≤ n → AreComponents g ranks → ((j : ℕ) → j < n → NeedsOwn ranks j (row g j) → ⊥) → RanksFall g ranks
ranks_fall g ranks n le p none a b needs =
    let x : get_or ranks b 0 ≤ get_or ranks a 0 = p.falls a b needs in
    let lt : a < length g = row_within g a b needs in
    let ne : get_or ranks b 0 ≢ get_or ranks a 0 = λ e. none a (omega (arith, lt, le)) (b, needs, e) in
    omega (arith, x, ne)

-- where ranks fall no cell is held up
pub none_held_up : (g : List (List ℕ)) (ranks taken : List ℕ) → IsClosed g → RanksFall g ranks → AllLeftAreHeldUp g taken → (k : ℕ) → k < length g → (¬ Contains taken k) → ⊥
none_held_up g ranks taken closed falls held k h left = down (get_or ranks k 0) k h left (omega arith)
  where
    down : (n k : ℕ) → k < length g → (¬ Contains taken k) → get_or ranks k 0 ≤ n → ⊥
    down zero k h left le = let r : (d : ℕ) × Needs g k d × (¬ Contains taken d) = held k h left in let lt : get_or ranks r.0 0 < get_or ranks k 0 = falls k r.0 r.1 in omega (arith, le, lt)
    down (suc n) k h left le = let r : (d : ℕ) × Needs g k d × (¬ Contains taken d) = held k h left in let lt : get_or ranks r.0 0 < get_or ranks k 0 = falls k r.0 r.1 in down n r.0 (closed k r.0 r.1) r.2 (omega (arith, le, lt))

-- ---- along the path

-- a cell that isn't the goal has a way of at least one step
longer : (g : List (List ℕ)) (goal j n : ℕ) → (j ≡ goal → ⊥) → Walk g n j goal → (m : ℕ) × Walk g (suc m) j goal × (suc m ≡ n)
longer g goal j zero ne w = absurd (ne w)
longer g goal j (suc n) ne w = (n, w, refl)

pub way_on : (g : List (List ℕ)) (ds : List (Option ℕ)) (start : ℕ) (path : List ℕ) (k n next : ℕ) → (next ≡ start → ⊥) → IsUnderway g ds start path k n next → (m : ℕ) × Walk g (suc m) next start
way_on g ds start path k n next ne u = let r : (m : ℕ) × Walk g (suc m) next start × (suc m ≡ n) = longer g start next n ne u.nearest.way in (r.0, r.1)

pub nearer_then : (g : List (List ℕ)) (ds : List (Option ℕ)) (start : ℕ) (path : List ℕ) (k n next m after : ℕ) → (next ≡ start → ⊥) → IsUnderway g ds start path k n next → IsNearest g start next m after → m < n
nearer_then g ds start path k n next m after ne u p =
    let r : (m : ℕ) × Walk g (suc m) next start × (suc m ≡ n) = longer g start next n ne u.nearest.way in
    let le : m ≤ r.0 = p.least r.1.0 r.0 r.1.1 r.1.2 in
    omega (arith, le, r.2)

pub underway_more : (g : List (List ℕ)) (ds : List (Option ℕ)) (start : ℕ) (path : List ℕ) (k n next m after : ℕ) → (next ≡ start → ⊥) → IsUnderway g ds start path k n next → IsNearest g start next m after → distance_at ds after ≡ Some m → IsUnderway g ds start (path ++ next ∷ []) next m after
underway_more g ds start path k n next m after ne u p e = record {
  nearest = p;
  distance = e;
  around = λ rest b. subst (IsBestPath g start start) (sym (append_assoc path (next ∷ []) rest)) (u.around (next ∷ rest) (best_more g start k n next rest ne u.nearest b));
}

pub underway_first : (g : List (List ℕ)) (ds : List (Option ℕ)) (start m after : ℕ) → IsNearest g start start m after → distance_at ds after ≡ Some m → IsUnderway g ds start [] start m after
underway_first g ds start m after p e = record { nearest = p; distance = e; around = λ rest b. b }

pub underway_end : (g : List (List ℕ)) (ds : List (Option ℕ)) (start : ℕ) (path : List ℕ) (k n next : ℕ) → next ≡ start → IsUnderway g ds start path k n next → IsBestPath g start start path
underway_end g ds start path k n next e u = subst (IsBestPath g start start) (append-nil path) (u.around [] (best_here g start k n next e u.nearest))
