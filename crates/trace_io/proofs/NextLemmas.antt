-- The next step from the next line.
use Rattle.std.proofs.Common.{◌≡◌, ◌≤◌, ◌++◌, ℕ, ℤ, Bool, true, false, if◌then◌else◌, List, ◌∷◌, length, Option, Some, None, refl, sym, ap, subst, ◌∙◌}
use Rattle.trace_io.specs.declared.field.Field.{Field}
use Rattle.trace_io.specs.declared.lines.Found.TheVariants as found
use Rattle.trace_io.specs.declared.step.ReadStep.TheVariants as step
use Rattle.trace_io.specs.Lines.{lines, words, text_in, is_short}
use Rattle.trace_io.specs.Scan.{reads_by, Placed}
use Rattle.trace_io.specs.Held.{Held, Read, WasWhole, has_line_end}
use Rattle.trace_io.specs.Next.{Course, line_by, ReadNext}

not_placed : (x : Option (List ℤ)) (test : Bool) (new : List ℤ) → Placed x test new → test ≡ false → x ≡ None
not_placed None test new p e = refl
not_placed (Some zs) test new p e = absurd (cc (p.0, e))

placed : (x : Option (List ℤ)) (test : Bool) (new : List ℤ) → Placed x test new → test ≡ true → x ≡ Some new
placed None test new p e = absurd (cc (p, e))
placed (Some zs) test new p e = ap Some (sym p.1)

short_line : (k : Bool) (fs : List Field) (last : List ℤ) (line : List ℕ) → is_short line ≡ true → line_by k fs last line ≡ reads_by k fs (words (text_in line)) last
short_line k fs last line e = ap (λ (b : Bool). if b then reads_by k fs (words (text_in line)) last else None) e

whole_with : (line : List ℕ) (h after : Held) → WasWhole line h → after ≡ h → WasWhole line after
whole_with line h after w e = subst (λ (x : Held). WasWhole line x) (sym e) w

module _ (h0 : Held) (fs : List Field) (k : Bool) (last : List ℤ) (l0 : Option (List ℕ)) (f0 : ℕ) (c0 : Option ℕ) (h : Held) (l : Option (List ℕ)) (f : ℕ) (c : Option ℕ)
    (start : Course) (viewed : record { held = h0; fields = fs; may_keep = k; last = last } ≡ start) where
  pub line_unread : Read h0 l0 f0 c0 found.Line h l f c → (after : Course) → after.held ≡ h → (test : Bool) → Placed (reads_by k fs (words (text_in h.line)) last) test after.last → test ≡ false
      → (values : List ℤ) → ReadNext start l0 f0 c0 step.Bad after values l f c
  line_unread r after same test p e values = subst (λ (s : Course). ReadNext s l0 f0 c0 step.Bad after values l f c) viewed (record {
    never_falls = r.never_falls;
    counted = r.counted;
    rose = λ x. absurd (cc x);
    asked = λ x. absurd (cc x);
    told = λ bytes t u. (let m = r.told bytes t u in (
      record { line = h.line; others = lines (h.waiting ++ m.0.0); first = m.0.2; unread = short_line k fs last h.line m.0.3 ∙ not_placed (reads_by k fs (words (text_in h.line)) last) test after.last p e },
      λ d. m.1 (ap (λ (x : Held). x.ended) (sym same) ∙ d),
    ));
  })

  pub line_given : Read h0 l0 f0 c0 found.Line h l f c → (after : Course) → after.held ≡ h → (test : Bool) → Placed (reads_by k fs (words (text_in h.line)) last) test after.last → test ≡ true
      → (values : List ℤ) → values ≡ after.last → ReadNext start l0 f0 c0 step.Step after values l f c
  line_given r after same test p e values is = subst (λ (s : Course). ReadNext s l0 f0 c0 step.Step after values l f c) viewed (record {
    never_falls = r.never_falls;
    counted = r.counted;
    rose = λ x. absurd (cc x);
    asked = λ x. absurd (cc x);
    told = λ bytes t u. (let m = r.told bytes t u in (
      record {
        line = h.line;
        rest = m.0.0;
        all = ap (λ (x : Held). h.line ++ (x.waiting ++ m.0.0)) same ∙ m.0.4;
        whole = whole_with h.line h after.held m.0.5 same;
        first = m.0.2 ∙ ap (λ (x : Held). h.line ∷ lines (x.waiting ++ m.0.0)) (sym same);
        left_is = m.0.1;
        read = short_line k fs last h.line m.0.3 ∙ placed (reads_by k fs (words (text_in h.line)) last) test after.last p e;
        given = is;
      },
      λ d. m.1 (ap (λ (x : Held). x.ended) (sym same) ∙ d),
    ));
  })

  pub none_left : Read h0 l0 f0 c0 found.End h l f c → (after : Course) → after.held ≡ h → (values : List ℤ) → ReadNext start l0 f0 c0 step.End after values l f c
  none_left r after same values = subst (λ (s : Course). ReadNext s l0 f0 c0 step.End after values l f c) viewed (record {
    never_falls = r.never_falls;
    counted = r.counted;
    rose = λ x. absurd (cc x);
    asked = λ x. absurd (cc x);
    told = λ bytes t u. (let m = r.told bytes t u in
        ((m.0.0, m.0.1, ap (λ (x : Held). x.waiting) same ∙ m.0.2), λ d. m.1 (ap (λ (x : Held). x.ended) (sym same) ∙ d)));
  })

  pub long_line : Read h0 l0 f0 c0 found.TooLong h l f c → (after : Course) → after.held ≡ h → (values : List ℤ) → ReadNext start l0 f0 c0 step.Bad after values l f c
  long_line r after same values = subst (λ (s : Course). ReadNext s l0 f0 c0 step.Bad after values l f c) viewed (record {
    never_falls = r.never_falls;
    counted = r.counted;
    rose = λ x. absurd (cc x);
    asked = λ x. absurd (cc x);
    told = λ bytes t u. (let m = r.told bytes t u in (
      record { line = m.0.line; others = m.0.others; first = m.0.is; unread = ap (λ (b : Bool). if b then reads_by k fs (words (text_in m.0.line)) last else None) m.0.long },
      λ d. m.1 (ap (λ (x : Held). x.ended) (sym same) ∙ d),
    ));
  })

  pub none_read : Read h0 l0 f0 c0 found.Failed h l f c → (after : Course) → after.held ≡ h → (values : List ℤ) → ReadNext start l0 f0 c0 step.ReadFault after values l f c
  none_read r after same values = subst (λ (s : Course). ReadNext s l0 f0 c0 step.ReadFault after values l f c) viewed (record {
    never_falls = r.never_falls;
    counted = r.counted;
    rose = λ x. r.rose refl;
    asked = λ x. r.asked refl;
    told = λ bytes t u. (let m = r.told bytes t u in (
      record {
        rest = m.0.0;
        left_is = m.0.1;
        none_waits = ap (λ (x : Held). x.waiting) same ∙ m.0.2;
        all = ap (λ (x : Held). x.line ++ m.0.0) same ∙ m.0.3;
        not_whole = ap (λ (x : Held). has_line_end x.line) same ∙ m.0.4;
        short = subst (λ (x : Held). length x.line ≤ 65536) (sym same) m.0.5;
      },
      λ d. m.1 (ap (λ (x : Held). x.ended) (sym same) ∙ d),
    ));
  })
