-- Reading a trace step by step: its header, and the lines behind it.
use Rattle.std.proofs.Common.{◌≡◌, ◌≤◌, ◌+◌, ◌⊎◌, inl, inr, ℕ, suc, ℤ, Bool, true, false, ◌&&◌, if◌then◌else◌, List, [], ◌∷◌, ◌++◌, length, Option, Some, None, refl, sym, ap, ap₂, subst, ◌∙◌, arith, append_assoc, append-nil}
use Rattle.outside.specs.Bytes.{Rose}
use Rattle.quartz_tree.specs.declared.declare.Base.{Base}
use Rattle.quartz_expr.specs.Vars.{Vars}
use Rattle.trace_io.specs.declared.field.Field.{Field}
use Rattle.trace_io.specs.declared.lines.Found.TheVariants as found
use Rattle.trace_io.specs.declared.step.ReadStep.{ReadStep}
use Rattle.trace_io.specs.declared.step.ReadStep.TheVariants as step
use Rattle.trace_io.specs.Lines.{lines, words, text_in, is_short, is_ended, joined_lines}
use Rattle.trace_io.specs.Values.{reads_value}
use Rattle.trace_io.specs.Inputs.{input_types, fields_from}
use Rattle.trace_io.specs.Reading.{before_values, reads_values, reads_line, reads_next, is_header, behind_first, head, headed_steps, line_steps, next_steps, steps_of, zeros, up_to_none}
use Rattle.trace_io.specs.Held.{Held, WasWhole, CalledAtMost, Read}
use Rattle.trace_io.specs.Header.{Named, inputs_from, no_marks, names_by, header_by, Listed}
use Rattle.trace_io.specs.Next.{Stepped, Unreadable, Untaken, Comes, ReadNext}
use Rattle.trace_io.specs.Trace.{Trail, course_steps, behind_header, first_steps, coming, are_ended, Gives, Ends, Breaks, Fails, Answers, most_calls, ReadTrace}
use Rattle.trace_io.specs.Scan.{reads_by}
use Rattle.trace_io.proofs.NextLemmas.{none_left, none_read}
use Rattle.trace_io.proofs.HeaderLemmas.{header_at_once}
use Rattle.trace_io.proofs.FormatLemmas.{line_of_format_1, line_of_format_2}

-- what a new reader means

values_long : (types : List Base) (ws : List (List ℕ)) (zs : List ℤ) → reads_values types ws ≡ Some zs → length zs ≡ length types
values_long [] [] zs e = let same : [] ≡ zs = cc e in ap length (sym same)
values_long [] (w ∷ ws) zs e = absurd (cc e)
values_long (b ∷ bs) [] zs e = absurd (cc e)
values_long (b ∷ bs) (w ∷ ws) zs e = known (reads_value b w) (reads_values bs ws) e (values_long bs ws)
  where
    known : (x : Option ℤ) (y : Option (List ℤ)) → before_values x y ≡ Some zs → ((ys : List ℤ) → y ≡ Some ys → length ys ≡ length bs) → length zs ≡ length (b ∷ bs)
    known None y e k = absurd (cc e)
    known (Some z) None e k = absurd (cc e)
    known (Some z) (Some ys) e k = let same : z ∷ ys ≡ zs = cc e in ap length (sym same) ∙ ap (λ (m : ℕ). suc m) (k ys refl)

line_long : (vs : Vars) (line : List ℕ) (zs : List ℤ) → reads_line vs line ≡ Some zs → length zs ≡ length (input_types vs)
line_long vs line zs e = known (is_short line) e
  where
    known : (b : Bool) → (if b then reads_values (input_types vs) (words (text_in line)) else None) ≡ Some zs → length zs ≡ length (input_types vs)
    known true e = values_long (input_types vs) (words (text_in line)) zs e
    known false e = absurd (cc e)

plain_course : (vs : Vars) (last : List ℤ) (ls : List (List ℕ)) → length last ≡ length (input_types vs) → course_steps false (fields_from 0 (input_types vs)) last ls ≡ line_steps vs ls
plain_course vs last [] h = refl
plain_course vs last (line ∷ rest) h =
    ap (λ (x : Option (List ℤ)). up_to_none x (λ zs. course_steps false (fields_from 0 (input_types vs)) zs rest)) (line_of_format_1 vs last line h) ∙ known (reads_line vs line) (λ zs e. plain_course vs zs rest (line_long vs line zs e))
  where
    known : (x : Option (List ℤ)) → ((zs : List ℤ) → x ≡ Some zs → course_steps false (fields_from 0 (input_types vs)) zs rest ≡ line_steps vs rest)
        → up_to_none x (λ zs. course_steps false (fields_from 0 (input_types vs)) zs rest) ≡ up_to_none x (λ zs. line_steps vs rest)
    known None k = refl
    known (Some zs) k = ap (λ (l : List (Option (List ℤ))). Some zs ∷ l) (k zs refl)

headed_course : (fs : List Field) (last : List ℤ) (ls : List (List ℕ)) → course_steps true fs last ls ≡ next_steps fs last ls
headed_course fs last [] = refl
headed_course fs last (line ∷ rest) =
    ap (λ (x : Option (List ℤ)). up_to_none x (λ zs. course_steps true fs zs rest)) (line_of_format_2 fs last line) ∙ known (reads_next fs last line) (λ zs. headed_course fs zs rest)
  where
    known : (x : Option (List ℤ)) → ((zs : List ℤ) → course_steps true fs zs rest ≡ next_steps fs zs rest) → up_to_none x (λ zs. course_steps true fs zs rest) ≡ up_to_none x (λ zs. next_steps fs zs rest)
    known None k = refl
    known (Some zs) k = ap (λ (l : List (Option (List ℤ))). Some zs ∷ l) (k zs)

new_steps : (vs : Vars) (h : Held) (ls : List (List ℕ)) → length (zeros vs) ≡ length (input_types vs)
    → first_steps (inputs_from 0 vs) (record { held = h; fields = fields_from 0 (input_types vs); may_keep = false; last = zeros vs }) ls ≡ steps_of vs ls
new_steps vs h [] l = refl
new_steps vs h (line ∷ rest) l = known (is_header line)
  where
    headed : (x : Option (List Field)) → behind_header x (zeros vs) rest ≡ headed_steps vs x rest
    headed None = refl
    headed (Some fs) = headed_course fs (zeros vs) rest

    known : (b : Bool) → (if b then behind_header (header_by (inputs_from 0 vs) line) (zeros vs) rest else course_steps false (fields_from 0 (input_types vs)) (zeros vs) (line ∷ rest))
        ≡ (if b then headed_steps vs (head vs line) rest else line_steps vs (line ∷ rest))
    known true = ap (λ (x : Option (List Field)). behind_header x (zeros vs) rest) (header_at_once vs line) ∙ headed (head vs line)
    known false = plain_course vs (zeros vs) (line ∷ rest) l

pub new_means : (vs : Vars) (t : Trail) → t.is_fresh ≡ true → t.inputs ≡ inputs_from 0 vs → t.course.fields ≡ fields_from 0 (input_types vs) → t.course.may_keep ≡ false → t.course.last ≡ zeros vs → length (zeros vs) ≡ length (input_types vs)
    → (ls : List (List ℕ)) → coming t ls ≡ steps_of vs ls
new_means vs t a b d e f l ls =
    ap (λ (x : Bool). if x then first_steps t.inputs t.course ls else course_steps t.course.may_keep t.course.fields t.course.last ls) a
    ∙ (ap₂ (λ (x : List Named) (y : List Field). first_steps x (record { held = t.course.held; fields = y; may_keep = t.course.may_keep; last = t.course.last }) ls) b d
    ∙ (ap₂ (λ (x : Bool) (y : List ℤ). first_steps (inputs_from 0 vs) (record { held = t.course.held; fields = fields_from 0 (input_types vs); may_keep = x; last = y }) ls) e f ∙ new_steps vs t.course.held ls l))

-- from the next line to the next step

pub fresh_steps : (t : Trail) → t.is_fresh ≡ true → (ls : List (List ℕ)) → coming t ls ≡ first_steps t.inputs t.course ls
fresh_steps t e ls = ap (λ (b : Bool). if b then first_steps t.inputs t.course ls else course_steps t.course.may_keep t.course.fields t.course.last ls) e

pub later_steps : (t : Trail) → t.is_fresh ≡ false → (ls : List (List ℕ)) → coming t ls ≡ course_steps t.course.may_keep t.course.fields t.course.last ls
later_steps t e ls = ap (λ (b : Bool). if b then first_steps t.inputs t.course ls else course_steps t.course.may_keep t.course.fields t.course.last ls) e

pub no_lines : (t : Trail) → coming t [] ≡ []
no_lines t = known t.is_fresh
  where
    known : (b : Bool) → (if b then first_steps t.inputs t.course [] else course_steps t.course.may_keep t.course.fields t.course.last []) ≡ []
    known true = refl
    known false = refl

-- the first line of these bytes is read as those behind it are
abbrev pub IsRead : Trail → (bytes : List ℕ) → Type 0
IsRead start bytes = (line : List ℕ) (others : List (List ℕ)) → lines bytes ≡ line ∷ others → (ls : List (List ℕ)) → coming start (line ∷ ls) ≡ course_steps start.course.may_keep start.course.fields start.course.last (line ∷ ls)

abbrev pub IsReadFor : ReadStep → Trail → (bytes : List ℕ) → Type 0
IsReadFor step.Step start bytes = IsRead start bytes
IsReadFor step.End start bytes = Unit {0}
IsReadFor step.Bad start bytes = IsRead start bytes
IsReadFor step.ReadFault start bytes = Unit {0}

one_line : (line rest : List ℕ) → joined_lines (line ∷ []) ++ rest ≡ line ++ rest
one_line line rest = ap (λ (l : List ℕ). l ++ rest) (append-nil line)

one_ended : (line : List ℕ) → is_ended line ≡ true → are_ended (line ∷ []) ≡ true
one_ended line e = ap (λ (b : Bool). b && true) e

module _ (start now : Trail) (bytes : List ℕ) (values : List ℤ) (left : Option (List ℕ)) where
  gives_of : now.is_fresh ≡ false → now.course.fields ≡ start.course.fields → now.course.may_keep ≡ start.course.may_keep → IsRead start bytes → Stepped start.course bytes now.course values left → Gives start bytes now values left
  gives_of fresh fields keep read s = record {
    taken = s.line ∷ [];
    rest = s.rest;
    left_is = s.left_is;
    cut = s.first;
    all = one_line s.line (now.course.held.waiting ++ s.rest) ∙ s.all;
    whole = whole s.whole;
    next = λ ls. read s.line (lines (now.course.held.waiting ++ s.rest)) s.first ls
        ∙ (ap (λ (x : Option (List ℤ)). up_to_none x (λ zs. course_steps start.course.may_keep start.course.fields zs ls)) s.read
        ∙ ap₂ (λ (x : List ℤ) (y : List (Option (List ℤ))). Some x ∷ y) (sym s.given)
        (ap₂ (λ (k : Bool) (fs : List Field). course_steps k fs now.course.last ls) (sym keep) (sym fields) ∙ sym (later_steps now fresh ls)));
  }
    where
      whole : WasWhole s.line now.course.held → (are_ended (s.line ∷ []) ≡ true) ⊎ ((now.course.held.ended ≡ true) × (now.course.held.waiting ≡ []))
      whole (inl e) = inl (one_ended s.line e)
      whole (inr e) = inr e

  breaks_of : IsRead start bytes → Unreadable start.course bytes → Breaks start bytes
  breaks_of read u = record {
    taken = u.line ∷ [];
    others = u.others;
    cut = u.first;
    unread = λ ls. read u.line u.others u.first ls ∙ ap (λ (x : Option (List ℤ)). up_to_none x (λ zs. course_steps start.course.may_keep start.course.fields zs ls)) u.unread;
  }

  ends_of : (bytes ≡ []) × (left ≡ Some []) × (now.course.held.waiting ≡ []) → Ends start bytes now left
  ends_of e = record { left_is = e.1; none_waits = e.2; no_more = ap (λ (l : List ℕ). coming start (lines l)) e.0 ∙ no_lines start }

  fails_of : Untaken bytes now.course.held left → Fails start bytes now left
  fails_of u = record { taken = []; rest = u.rest; left_is = u.left_is; none_waits = u.none_waits; cut = ap lines (sym u.all); all = u.all; whole = refl; not_whole = u.not_whole; short = u.short; none_given = no_lines start }

  pub answers_of : (r : ReadStep) → (r ≡ step.Step → (now.is_fresh ≡ false) × (now.course.fields ≡ start.course.fields) × (now.course.may_keep ≡ start.course.may_keep)) → IsReadFor r start bytes → Comes r start.course bytes now.course values left → Answers r start bytes now values left
  answers_of step.Step k read s = let (a, b, d) = k refl in gives_of a b d read s
  answers_of step.End k read s = ends_of s
  answers_of step.Bad k read s = breaks_of read s
  answers_of step.ReadFault k read s = fails_of s

read_for : (r : ReadStep) (start : Trail) (bytes : List ℕ) → IsRead start bytes → IsReadFor r start bytes
read_for step.Step start bytes k = k
read_for step.End start bytes k = tt
read_for step.Bad start bytes k = k
read_for step.ReadFault start bytes k = tt

few_calls : (m : ℕ) (before after : Option ℕ) → 65538 ≤ m → CalledAtMost 65538 before after → CalledAtMost m before after
few_calls m None after h k = k
few_calls m (Some n) after h k = (k.0, k.1, omega (arith, h, k.2))

enough : (start now : Trail) → 65538 ≤ most_calls start now
enough start now = known (start.is_fresh && now.course.may_keep)
  where
    known : (b : Bool) → 65538 ≤ (if b then 131076 else 65538)
    known true = omega arith
    known false = omega arith

module _ (start now : Trail) (left0 : Option (List ℕ)) (f0 : ℕ) (c0 : Option ℕ) (values : List ℤ) (left : Option (List ℕ)) (f : ℕ) (c : Option ℕ) where
  pub trace_of_next : (r : ReadStep) → (r ≡ step.Step → (now.is_fresh ≡ false) × (now.course.fields ≡ start.course.fields) × (now.course.may_keep ≡ start.course.may_keep))
      → ((bytes : List ℕ) → left0 ≡ Some bytes → (start.course.held.ended ≡ true → bytes ≡ []) → IsReadFor r start (start.course.held.waiting ++ bytes))
      → ReadNext start.course left0 f0 c0 r now.course values left f c → ReadTrace start left0 f0 c0 r now values left f c
  trace_of_next r k read n = record {
    never_falls = n.never_falls;
    counted = few_calls (most_calls start now) c0 c (enough start now) n.counted;
    rose = n.rose;
    asked = n.asked;
    told = λ bytes l u. (let t = n.told bytes l u in (answers_of start now (start.course.held.waiting ++ bytes) values left r k (read bytes l u) t.0, t.1));
  }

  -- a step behind the first line
  pub later_trace : (r : ReadStep) → start.is_fresh ≡ false → now.is_fresh ≡ false → now.course.fields ≡ start.course.fields → now.course.may_keep ≡ start.course.may_keep
      → ReadNext start.course left0 f0 c0 r now.course values left f c → ReadTrace start left0 f0 c0 r now values left f c
  later_trace r fresh later fields keep n =
      trace_of_next r (λ _. (later, fields, keep)) (λ bytes l u. read_for r start (start.course.held.waiting ++ bytes) (λ line others e ls. later_steps start fresh (line ∷ ls))) n

-- a step behind a line that gives none

pub calls_together : (m n : ℕ) (a b d : Option ℕ) → CalledAtMost m a b → CalledAtMost n b d → CalledAtMost (m + n) a d
calls_together m n None b d h k = none b d h k
  where
    none : (b d : Option ℕ) → b ≡ None → CalledAtMost n b d → d ≡ None
    none None d h k = k
    none (Some x) d h k = absurd (cc h)
calls_together m n (Some x) b d h k = some b d h.1 h.2 k
  where
    some : (b d : Option ℕ) → b ≡ Some h.0 → h.0 ≤ x + m → CalledAtMost n b d → (y : ℕ) × (d ≡ Some y) × (y ≤ x + (m + n))
    some None d e l k = absurd (cc e)
    some (Some z) d e l k = let same : z ≡ h.0 = cc e in let u = k.2 in (k.0, k.1, omega (arith, same, l, u))

pub no_taken : (taken others : List (List ℕ)) → [] ≡ taken ++ others → taken ≡ []
no_taken [] others e = refl
no_taken (t ∷ ts) others e = absurd (cc e)

module _ (start mid now : Trail) (bytes bytes1 : List ℕ) (values : List ℤ) (left : Option (List ℕ)) (line : List ℕ)
    (first : lines bytes ≡ line ∷ lines bytes1) (all : line ++ bytes1 ≡ bytes) (was_whole : (is_ended line ≡ true) ⊎ ((mid.course.held.ended ≡ true) × (bytes1 ≡ [])))
    (same : (ls : List (List ℕ)) → coming start (line ∷ ls) ≡ coming mid ls) where
  all_taken : (taken : List (List ℕ)) (rest : List ℕ) → joined_lines taken ++ rest ≡ bytes1 → joined_lines (line ∷ taken) ++ rest ≡ bytes
  all_taken taken rest e = append_assoc line (joined_lines taken) rest ∙ (ap (λ (x : List ℕ). line ++ x) e ∙ all)

  more_ended : (taken : List (List ℕ)) → is_ended line ≡ true → are_ended taken ≡ true → are_ended (line ∷ taken) ≡ true
  more_ended taken e k = ap₂ (λ (a b : Bool). a && b) e k

  gives_behind : Gives mid bytes1 now values left → Gives start bytes now values left
  gives_behind g = record {
    taken = line ∷ g.taken;
    rest = g.rest;
    left_is = g.left_is;
    cut = first ∙ ap (λ (x : List (List ℕ)). line ∷ x) g.cut;
    all = all_taken g.taken (now.course.held.waiting ++ g.rest) g.all;
    whole = whole was_whole g.whole;
    next = λ ls. same (g.taken ++ ls) ∙ g.next ls;
  }
    where
      none_given : bytes1 ≡ [] → ⊥
      none_given e =
          let none : g.taken ≡ [] = no_taken g.taken (lines (now.course.held.waiting ++ g.rest)) (sym (ap lines e) ∙ g.cut) in
          cc (sym (no_lines mid) ∙ (ap (λ (x : List (List ℕ)). coming mid (x ++ [])) (sym none) ∙ g.next []))

      whole : (is_ended line ≡ true) ⊎ ((mid.course.held.ended ≡ true) × (bytes1 ≡ [])) → (are_ended g.taken ≡ true) ⊎ ((now.course.held.ended ≡ true) × (now.course.held.waiting ≡ []))
          → (are_ended (line ∷ g.taken) ≡ true) ⊎ ((now.course.held.ended ≡ true) × (now.course.held.waiting ≡ []))
      whole (inl e) (inl k) = inl (more_ended g.taken e k)
      whole (inl e) (inr k) = inr k
      whole (inr e) k = absurd (none_given e.1)

  ends_behind : Ends mid bytes1 now left → Ends start bytes now left
  ends_behind n = record { left_is = n.left_is; none_waits = n.none_waits; no_more = ap (coming start) first ∙ (same (lines bytes1) ∙ n.no_more) }

  breaks_behind : Breaks mid bytes1 → Breaks start bytes
  breaks_behind b = record { taken = line ∷ b.taken; others = b.others; cut = first ∙ ap (λ (x : List (List ℕ)). line ∷ x) b.cut; unread = λ ls. same (b.taken ++ ls) ∙ b.unread ls }

  fails_behind : mid.course.held.ended ≡ false → Fails mid bytes1 now left → Fails start bytes now left
  fails_behind goes n = record {
    taken = line ∷ n.taken;
    rest = n.rest;
    left_is = n.left_is;
    none_waits = n.none_waits;
    cut = first ∙ ap (λ (x : List (List ℕ)). line ∷ x) n.cut;
    all = all_taken n.taken (now.course.held.line ++ n.rest) n.all;
    whole = ended was_whole;
    not_whole = n.not_whole;
    short = n.short;
    none_given = same n.taken ∙ n.none_given;
  }
    where
      ended : (is_ended line ≡ true) ⊎ ((mid.course.held.ended ≡ true) × (bytes1 ≡ [])) → are_ended (line ∷ n.taken) ≡ true
      ended (inl e) = more_ended n.taken e n.whole
      ended (inr e) = absurd (cc (goes, e.0))

  pub behind_line : (r : ReadStep) → (r ≡ step.ReadFault → mid.course.held.ended ≡ false) → Answers r mid bytes1 now values left → Answers r start bytes now values left
  behind_line step.Step goes a = gives_behind a
  behind_line step.End goes a = ends_behind a
  behind_line step.Bad goes a = breaks_behind a
  behind_line step.ReadFault goes a = fails_behind (goes refl) a

-- the first line

same_head : (x y : List ℕ) (xs ys bs : List (List ℕ)) → bs ≡ x ∷ xs → bs ≡ y ∷ ys → x ≡ y
same_head x y xs ys bs e f = cc (e, f)

module _ (h0 : Held) (fs : List Field) (k : Bool) (last : List ℤ) (is : List Named) (fresh : Bool) (l0 : Option (List ℕ)) (f0 : ℕ) (c0 : Option ℕ) (h : Held) (l : Option (List ℕ)) (f : ℕ) (c : Option ℕ)
    (start : Trail) (viewed : record { course = record { held = h0; fields = fs; may_keep = k; last = last }; inputs = is; is_fresh = fresh } ≡ start) (is_first : start.is_fresh ≡ true) where
  course_is : record { held = h0; fields = fs; may_keep = k; last = last } ≡ start.course
  course_is = ap (λ (t : Trail). t.course) viewed

  held_is : h0 ≡ start.course.held
  held_is = ap (λ (t : Trail). t.course.held) viewed

  begun_first : (line : List ℕ) (ls : List (List ℕ)) → coming start (line ∷ ls)
      ≡ (if is_header line then behind_header (header_by start.inputs line) start.course.last ls else course_steps start.course.may_keep start.course.fields start.course.last (line ∷ ls))
  begun_first line ls = fresh_steps start is_first (line ∷ ls)

  -- it is no header
  pub no_header : Read h0 l0 f0 c0 found.Line h l f c → is_header h.line ≡ false → (bytes : List ℕ) → l0 ≡ Some bytes → (start.course.held.ended ≡ true → bytes ≡ []) → IsRead start (start.course.held.waiting ++ bytes)
  no_header r e bytes t u = λ line others first ls.
      (let m = r.told bytes t (λ d. u (sym (ap (λ (x : Held). x.ended) held_is) ∙ d)) in
      let same = same_head line h.line others (lines (h.waiting ++ m.0.0)) (lines (start.course.held.waiting ++ bytes)) first (ap (λ (x : Held). lines (x.waiting ++ bytes)) (sym held_is) ∙ m.0.2) in
      begun_first line ls ∙ ap (λ (b : Bool). if b then behind_header (header_by start.inputs line) start.course.last ls else course_steps start.course.may_keep start.course.fields start.course.last (line ∷ ls)) (ap is_header same ∙ e))

  -- it is too long
  pub first_long : Read h0 l0 f0 c0 found.TooLong h l f c → (now : Trail) → now.course.held ≡ h → (values : List ℤ) → ReadTrace start l0 f0 c0 step.Bad now values l f c
  first_long r now same values = record {
    never_falls = r.never_falls;
    counted = few_calls (most_calls start now) c0 c (enough start now) r.counted;
    rose = λ x. absurd (cc x);
    asked = λ x. absurd (cc x);
    told = λ bytes t u. (let m = r.told bytes t (λ d. u (sym (ap (λ (x : Held). x.ended) held_is) ∙ d)) in (
      record {
        taken = m.0.line ∷ [];
        others = m.0.others;
        cut = ap (λ (x : Held). lines (x.waiting ++ bytes)) (sym held_is) ∙ m.0.is;
        unread = λ ls. begun_first m.0.line ls ∙ unread m.0.line ls m.0.long (is_header m.0.line);
      },
      λ d. m.1 (ap (λ (x : Held). x.ended) (sym same) ∙ d),
    ));
  }
    where
      unread : (line : List ℕ) (ls : List (List ℕ)) → is_short line ≡ false → (b : Bool)
          → (if b then behind_header (if b && is_short line then names_by start.inputs (no_marks start.inputs) [] (words (behind_first (text_in line))) else None) start.course.last ls else course_steps start.course.may_keep start.course.fields start.course.last (line ∷ ls)) ≡ None ∷ []
      unread line ls e true = ap (λ (b : Bool). behind_header (if b then names_by start.inputs (no_marks start.inputs) [] (words (behind_first (text_in line))) else None) start.course.last ls) e
      unread line ls e false = ap (λ (b : Bool). up_to_none (if b then reads_by start.course.may_keep start.course.fields (words (text_in line)) start.course.last else None) (λ zs. course_steps start.course.may_keep start.course.fields zs ls)) e

  -- nothing is left, or the read failed
  pub first_none : Read h0 l0 f0 c0 found.End h l f c → (now : Trail) → now.course.held ≡ h → (values : List ℤ) → ReadTrace start l0 f0 c0 step.End now values l f c
  first_none r now same values = trace_of_next start now l0 f0 c0 values l f c step.End (λ e. absurd (cc e)) (λ bytes t u. tt)
      (none_left h0 fs k last l0 f0 c0 h l f c start.course course_is r now.course same values)

  pub first_failed : Read h0 l0 f0 c0 found.Failed h l f c → (now : Trail) → now.course.held ≡ h → (values : List ℤ) → ReadTrace start l0 f0 c0 step.ReadFault now values l f c
  first_failed r now same values = trace_of_next start now l0 f0 c0 values l f c step.ReadFault (λ e. absurd (cc e)) (λ bytes t u. tt)
      (none_read h0 fs k last l0 f0 c0 h l f c start.course course_is r now.course same values)

  -- it is a header
  header_steps : (line : List ℕ) → is_header line ≡ true → is_short line ≡ true → (ls : List (List ℕ)) → coming start (line ∷ ls) ≡ behind_header (names_by is (no_marks is) [] (words (behind_first (text_in line)))) last ls
  header_steps line e s ls =
      begun_first line ls
      ∙ (ap (λ (b : Bool). if b then behind_header (header_by start.inputs line) start.course.last ls else course_steps start.course.may_keep start.course.fields start.course.last (line ∷ ls)) e
      ∙ (ap₂ (λ (a b : Bool). behind_header (if a && b then names_by start.inputs (no_marks start.inputs) [] (words (behind_first (text_in line))) else None) start.course.last ls) e s
      ∙ ap (λ (t : Trail). behind_header (names_by t.inputs (no_marks t.inputs) [] (words (behind_first (text_in line)))) t.course.last ls) (sym viewed)))

  pub bad_header : Read h0 l0 f0 c0 found.Line h l f c → is_header h.line ≡ true → (test : Bool) (gs : List Field) → Listed (names_by is (no_marks is) [] (words (behind_first (text_in h.line)))) test gs → test ≡ false
      → (now : Trail) → now.course.held ≡ h → (values : List ℤ) → ReadTrace start l0 f0 c0 step.Bad now values l f c
  bad_header r e test gs listed unread now same values = record {
    never_falls = r.never_falls;
    counted = few_calls (most_calls start now) c0 c (enough start now) r.counted;
    rose = λ x. absurd (cc x);
    asked = λ x. absurd (cc x);
    told = λ bytes t u. (let m = r.told bytes t (λ d. u (sym (ap (λ (x : Held). x.ended) held_is) ∙ d)) in (
      record {
        taken = h.line ∷ [];
        others = lines (h.waiting ++ m.0.0);
        cut = ap (λ (x : Held). lines (x.waiting ++ bytes)) (sym held_is) ∙ m.0.2;
        unread = λ ls. header_steps h.line e m.0.3 ls ∙ ap (λ (x : Option (List Field)). behind_header x last ls) (none_listed (names_by is (no_marks is) [] (words (behind_first (text_in h.line)))) test gs listed unread);
      },
      λ d. m.1 (ap (λ (x : Held). x.ended) (sym same) ∙ d),
    ));
  }
    where
      none_listed : (x : Option (List Field)) (test : Bool) (gs : List Field) → Listed x test gs → test ≡ false → x ≡ None
      none_listed None test gs p e = refl
      none_listed (Some fs) test gs p e = absurd (cc (p.0, e))

  -- and the step behind it
  pub behind_first_line : Read h0 l0 f0 c0 found.Line h l f c → (h0.ended ≡ true → h.ended ≡ true) → is_header h.line ≡ true → (test : Bool) (gs : List Field) → Listed (names_by is (no_marks is) [] (words (behind_first (text_in h.line)))) test gs → test ≡ true
      → (mid now : Trail) → mid.course.held ≡ h → mid.is_fresh ≡ false → mid.course.may_keep ≡ true → mid.course.fields ≡ gs → mid.course.last ≡ last → now.course.may_keep ≡ true
      → (r2 : ReadStep) (values : List ℤ) (l2 : Option (List ℕ)) (f2 : ℕ) (c2 : Option ℕ) → ReadTrace mid l f c r2 now values l2 f2 c2 → ReadTrace start l0 f0 c0 r2 now values l2 f2 c2
  behind_first_line r stays e test gs listed readable mid now held begun keep fields values_are keeps r2 values l2 f2 c2 n = record {
    never_falls = let a = r.never_falls in let b = n.never_falls in omega (arith, a, b);
    counted = subst (λ (m : ℕ). CalledAtMost m c0 c2) (sym (ap₂ (λ (a b : Bool). if a && b then 131076 else 65538) is_first keeps))
        (calls_together 65538 65538 c0 c c2 r.counted (subst (λ (b : Bool). CalledAtMost (if b && now.course.may_keep then 131076 else 65538) c c2) begun n.counted));
    rose = λ x. risen (n.rose x);
    asked = λ x. not_ended (n.asked x) start.course.held.ended refl;
    told = λ bytes t u. (let m = r.told bytes t (λ d. u (sym (ap (λ (x : Held). x.ended) held_is) ∙ d)) in
        let nil : h.ended ≡ true → m.0.0 ≡ [] = λ d. cc (sym m.0.1 ∙ m.1 d) in
        let t2 = n.told m.0.0 m.0.1 (λ d. nil (ap (λ (x : Held). x.ended) (sym held) ∙ d)) in
        let waits : h.waiting ≡ mid.course.held.waiting = ap (λ (x : Held). x.waiting) (sym held) in (
          behind_line start mid now (start.course.held.waiting ++ bytes) (mid.course.held.waiting ++ m.0.0) values l2 h.line
              (ap (λ (x : Held). lines (x.waiting ++ bytes)) (sym held_is) ∙ (m.0.2 ∙ ap (λ (x : List ℕ). h.line ∷ lines (x ++ m.0.0)) waits))
              (ap (λ (x : List ℕ). h.line ++ (x ++ m.0.0)) (sym waits) ∙ (m.0.4 ∙ ap (λ (x : Held). x.waiting ++ bytes) held_is))
              (whole m.0.0 nil waits m.0.5) (same m.0.3) r2 n.asked t2.0,
          t2.1,
        ));
  }
    where
      risen : Rose f f2 → Rose f0 f2
      risen (inl x) = inl (let a = r.never_falls in omega (arith, a, x))
      risen (inr x) = inr x

      not_ended : mid.course.held.ended ≡ false → (b : Bool) → start.course.held.ended ≡ b → start.course.held.ended ≡ false
      not_ended a true d = absurd (cc (sym a ∙ (ap (λ (x : Held). x.ended) held ∙ stays (ap (λ (x : Held). x.ended) held_is ∙ d))))
      not_ended a false d = d

      whole : (rest : List ℕ) → (h.ended ≡ true → rest ≡ []) → h.waiting ≡ mid.course.held.waiting → WasWhole h.line h → (is_ended h.line ≡ true) ⊎ ((mid.course.held.ended ≡ true) × (mid.course.held.waiting ++ rest ≡ []))
      whole rest nil waits (inl x) = inl x
      whole rest nil waits (inr (a, b)) = inr (ap (λ (x : Held). x.ended) held ∙ a, ap₂ (λ (x y : List ℕ). x ++ y) (sym waits ∙ b) (nil a))

      listed_is : (x : Option (List Field)) (test : Bool) → Listed x test gs → test ≡ true → x ≡ Some gs
      listed_is None test p e = absurd (cc (p, e))
      listed_is (Some fs) test p e = ap Some (sym p.1)

      same : is_short h.line ≡ true → (ls : List (List ℕ)) → coming start (h.line ∷ ls) ≡ coming mid ls
      same s ls =
          header_steps h.line e s ls
          ∙ (ap (λ (x : Option (List Field)). behind_header x last ls) (listed_is (names_by is (no_marks is) [] (words (behind_first (text_in h.line)))) test listed readable)
          ∙ (ap₂ (λ (x : List Field) (y : List ℤ). course_steps true x y ls) (sym fields) (sym values_are) ∙ (ap (λ (b : Bool). course_steps b mid.course.fields mid.course.last ls) (sym keep) ∙ sym (later_steps mid begun ls))))
