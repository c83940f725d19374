-- Steps of the builder, one after another.
use Rattle.std.proofs.Common.{◌≡◌, refl, sym, ap, subst}
use Rattle.aif_cells.specs.declared.reference.Ref.{Ref}
use Rattle.statement_cells.specs.Expressions.{Copies}
use Rattle.statement_cells.specs.Builder.{Builder as Plain, Made, given}
use Rattle.statement_builder.specs.declared.builder.Builder.{Builder}
use Rattle.statement_builder.specs.Built.{Does, Gives, IsBuilt, Makes}

-- nothing is done
pub kept : (b : Builder) (r : Ref) (f : Copies → Plain → Made) → ((κ : Copies) (β : Plain) → f κ β ≡ given r β) → Makes b b r f
kept b r f e = record {
  over = λ vs h. h;
  made = λ κ front β h. (sym (ap (λ (m : Made). m.ref) (e κ β)), subst (λ (m : Made). IsBuilt κ front b m.built) (sym (e κ β)) h);
}

-- the same by another name
pub made_as : (before after : Builder) (r : Ref) (f g : Copies → Plain → Made) → ((κ : Copies) (β : Plain) → f κ β ≡ g κ β) → Makes before after r f → Makes before after r g
made_as before after r f g e h = record {
  over = h.over;
  made = λ κ front β k. subst (λ (m : Made). (r ≡ m.ref) × IsBuilt κ front after m.built) (e κ β) (h.made κ front β k);
}

-- one reference, and then another that is made of it
pub then_made : (b0 b1 b2 : Builder) (r s : Ref) (f : Copies → Plain → Made) (g : Ref → Copies → Plain → Made)
    → Makes b0 b1 r f → Makes b1 b2 s (g r) → Makes b0 b2 s (λ κ β. g (f κ β).ref κ (f κ β).built)
then_made b0 b1 b2 r s f g h k = record {
  over = λ vs o. k.over vs (h.over vs o);
  made = λ κ front β i.
      let first : (r ≡ (f κ β).ref) × IsBuilt κ front b1 (f κ β).built = h.made κ front β i in
      subst (λ (x : Ref). (s ≡ (g x κ (f κ β).built).ref) × IsBuilt κ front b2 (g x κ (f κ β).built).built) first.0 (k.made κ front (f κ β).built first.1);
}

-- something is done, and then a reference is made
pub done_then_made : (b0 b1 b2 : Builder) (s : Ref) (f : Copies → Plain → Plain) (g : Copies → Plain → Made)
    → Does b0 b1 f → Makes b1 b2 s g → Makes b0 b2 s (λ κ β. g κ (f κ β))
done_then_made b0 b1 b2 s f g h k = record {
  over = λ vs o. k.over vs (h.over vs o);
  made = λ κ front β i. k.made κ front (f κ β) (h.built κ front β i);
}

-- one thing, and then another
pub then_done : (b0 b1 b2 : Builder) (f g : Copies → Plain → Plain) → Does b0 b1 f → Does b1 b2 g → Does b0 b2 (λ κ β. g κ (f κ β))
then_done b0 b1 b2 f g h k = record {
  over = λ vs o. k.over vs (h.over vs o);
  built = λ κ front β i. k.built κ front (f κ β) (h.built κ front β i);
}

-- a reference is made, and then something is done with it
pub made_then_done : (b0 b1 b2 : Builder) (r : Ref) (f : Copies → Plain → Made) (g : Ref → Copies → Plain → Plain)
    → Makes b0 b1 r f → Does b1 b2 (g r) → Does b0 b2 (λ κ β. g (f κ β).ref κ (f κ β).built)
made_then_done b0 b1 b2 r f g h k = record {
  over = λ vs o. k.over vs (h.over vs o);
  built = λ κ front β i.
      let first : (r ≡ (f κ β).ref) × IsBuilt κ front b1 (f κ β).built = h.made κ front β i in
      subst (λ (x : Ref). IsBuilt κ front b2 (g x κ (f κ β).built)) first.0 (k.built κ front (f κ β).built first.1);
}

-- something is done, and the reference is there already
pub done_giving : (b0 b1 : Builder) (r : Ref) (f : Copies → Plain → Plain) → Does b0 b1 f → Makes b0 b1 r (λ κ β. given r (f κ β))
done_giving b0 b1 r f h = record { over = h.over; made = λ κ front β i. (refl, h.built κ front β i) }

-- nothing is done
pub nothing_done : (b : Builder) (f : Copies → Plain → Plain) → ((κ : Copies) (β : Plain) → f κ β ≡ β) → Does b b f
nothing_done b f e = record { over = λ vs h. h; built = λ κ front β h. subst (IsBuilt κ front b) (sym (e κ β)) h }

-- the same by another name
pub done_as : (before after : Builder) (f g : Copies → Plain → Plain) → ((κ : Copies) (β : Plain) → f κ β ≡ g κ β) → Does before after f → Does before after g
done_as before after f g e h = record { over = h.over; built = λ κ front β k. subst (IsBuilt κ front after) (e κ β) (h.built κ front β k) }

-- ---- what is given, one thing after another

pub bind_gives : (A B : Type 0) (b0 b1 b2 : Builder) (a : A) (c : B) (f : Copies → Plain → A × Plain) (g : A → Copies → Plain → B × Plain)
    → Gives A b0 b1 a f → Gives B b1 b2 c (g a) → Gives B b0 b2 c (λ κ β. g (f κ β).0 κ (f κ β).1)
bind_gives A B b0 b1 b2 a c f g h k = record {
  over = λ vs o. k.over vs (h.over vs o);
  made = λ κ front β i.
      let first : (a ≡ (f κ β).0) × IsBuilt κ front b1 (f κ β).1 = h.made κ front β i in
      subst (λ (x : A). (c ≡ (g x κ (f κ β).1).0) × IsBuilt κ front b2 (g x κ (f κ β).1).1) first.0 (k.made κ front (f κ β).1 first.1);
}

pub map_gives : (A B : Type 0) (b0 b1 : Builder) (a : A) (h : A → B) (f : Copies → Plain → A × Plain) → Gives A b0 b1 a f → Gives B b0 b1 (h a) (λ κ β. (h (f κ β).0, (f κ β).1))
map_gives A B b0 b1 a h f k = record {
  over = k.over;
  made = λ κ front β i. let first : (a ≡ (f κ β).0) × IsBuilt κ front b1 (f κ β).1 = k.made κ front β i in (ap h first.0, first.1);
}

pub gives_same : (A : Type 0) (b : Builder) (a : A) → Gives A b b a (λ κ β. (a, β))
gives_same A b a = record { over = λ vs h. h; made = λ κ front β i. (refl, i) }

pub of_made : (b0 b1 : Builder) (r : Ref) (f : Copies → Plain → Made) → Makes b0 b1 r f → Gives Ref b0 b1 r (λ κ β. ((f κ β).ref, (f κ β).built))
of_made b0 b1 r f h = record { over = h.over; made = λ κ front β i. h.made κ front β i }

pub to_made : (b0 b1 : Builder) (r : Ref) (f : Copies → Plain → Ref × Plain) → Gives Ref b0 b1 r f → Makes b0 b1 r (λ κ β. given (f κ β).0 (f κ β).1)
to_made b0 b1 r f h = record { over = h.over; made = λ κ front β i. h.made κ front β i }

-- something is done, and then something is given
pub done_then_gives : (A : Type 0) (b0 b1 b2 : Builder) (a : A) (f : Copies → Plain → Plain) (g : Copies → Plain → A × Plain) → Does b0 b1 f → Gives A b1 b2 a g → Gives A b0 b2 a (λ κ β. g κ (f κ β))
done_then_gives A b0 b1 b2 a f g h k = record {
  over = λ vs o. k.over vs (h.over vs o);
  made = λ κ front β i. k.made κ front (f κ β) (h.built κ front β i);
}

-- something is given, and then a reference is made
pub gives_then_made : (A : Type 0) (b0 b1 b2 : Builder) (a : A) (r : Ref) (f : Copies → Plain → A × Plain) (g : A → Copies → Plain → Made) → Gives A b0 b1 a f → Makes b1 b2 r (g a) → Makes b0 b2 r (λ κ β. g (f κ β).0 κ (f κ β).1)
gives_then_made A b0 b1 b2 a r f g h k = record {
  over = λ vs o. k.over vs (h.over vs o);
  made = λ κ front β i.
      let first : (a ≡ (f κ β).0) × IsBuilt κ front b1 (f κ β).1 = h.made κ front β i in
      subst (λ (x : A). (r ≡ (g x κ (f κ β).1).ref) × IsBuilt κ front b2 (g x κ (f κ β).1).built) first.0 (k.made κ front (f κ β).1 first.1);
}
