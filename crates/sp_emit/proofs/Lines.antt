-- The parts of a line in front of each other.
use Rattle.std.proofs.Common.{◌≡◌, ◌≢◌, ℕ, ◌<◌, ◌≤◌, ◌^◌, true, false, List, [], ◌∷◌, ◌++◌, refl, sym, ◌∙◌, ap, subst, arith, append_assoc}
use Rattle.std.specs.Prelude.{codes}
use Rattle.std.specs.Fmt.{decimal}
use Rattle.std.proofs.lemmas.List.Elements.{All-nil}
use Rattle.sp_base.specs.Commas.{more, list_text}
use Rattle.sp_plan.specs.declared.plan.Plan.{Plan}
use Rattle.sp_plan.specs.declared.found.Match.{Match}
use Rattle.sp_plan.specs.Lines.{line}
use Rattle.sp_emit.specs.Matches.{IsLine, OneMatch}
use Rattle.sp_emit.specs.Reading.{heads, is_digit, LabelledAt, PlacesAt, BindingsAt, UsedIs}
use Rattle.sp_emit.proofs.Runs.{ends_number}
use Rattle.sp_emit.proofs.Numbers.{labelled_one, decimal_heads}
use Rattle.sp_emit.proofs.Commas.{first_number, places_numbers, places_one}
use Rattle.sp_emit.proofs.Named.{bindings_one, before_used, before_used_ends}

-- a list of numbers is empty or not
pub is_some : (n : ℕ) (ns : List ℕ) → n ∷ ns ≢ []
is_some n ns e = cc

-- ---- the consumed numbers

-- no text of numbers begins with a dash
pub no_dash : (text ns r s : List ℕ) → PlacesAt text ns r → text ≡ codes "-" ++ s → ⊥
no_dash text [] r s a e = a.some refl
no_dash text (n ∷ ns) r s a e =
    let first = first_number text n ns r (places_numbers text (n ∷ ns) r a) in
    let within : n ≤ 4294967295 = first.within in
    let begins : true ≡ false = sym (decimal_heads n (more ns ++ r) (omega arith)) ∙ ap (heads is_digit) (sym first.cut ∙ e) in
    cc

-- consumed numbers stand in front of the line feed
pub used_places : (text : List ℕ) (n : ℕ) (ns : List ℕ) → UsedIs text (n ∷ ns) → PlacesAt text (n ∷ ns) (codes "\n")
used_places text n ns u = record { some = is_some n ns; are = u.are; cut = u.is; ends = refl }

pub places_used : (text ns : List ℕ) → PlacesAt text ns (codes "\n") → UsedIs text ns
places_used text [] a = absurd (a.some refl)
places_used text (n ∷ ns) a = record { are = a.are; is = a.cut }

pub used_one : (text ms ns : List ℕ) → UsedIs text ms → UsedIs text ns → ms ≡ ns
used_one text [] [] a b = refl
used_one text [] (n ∷ ns) a b = absurd (no_dash text (n ∷ ns) (codes "\n") (codes "\n") (used_places text n ns b) a.is)
used_one text (m ∷ ms) [] a b = absurd (no_dash text (m ∷ ms) (codes "\n") (codes "\n") (used_places text m ms a) b.is)
used_one text (m ∷ ms) (n ∷ ns) a b = let p = places_one text (m ∷ ms) (n ∷ ns) (codes "\n") (codes "\n") (used_places text m ms a) (used_places text n ns b) in p.0

-- nothing is consumed where a dash stands
pub used_dash : (text ns : List ℕ) → text ≡ codes "-\n" → ns ≡ [] → UsedIs text ns
used_dash text ns e n = subst (λ (l : List ℕ). UsedIs text l) (sym n) (record { are = record { rising = λ k h. absurd (omega arith); small = All-nil (λ n. n < 2 ^ 32) }; is = e })

-- no numbers are in front of the text, and no dash
pub none_used : (text : List ℕ) → text ≢ codes "-\n" → ((ns r : List ℕ) → PlacesAt text ns r → ⊥) → (ns : List ℕ) → UsedIs text ns → ⊥
none_used text dash none [] u = dash u.is
none_used text dash none (n ∷ ns) u = none (n ∷ ns) (codes "\n") (used_places text n ns u)

-- the numbers in front of the text aren't all of it
pub none_after : (text : List ℕ) → text ≢ codes "-\n" → (ms r : List ℕ) → PlacesAt text ms r → r ≢ codes "\n" → (ns : List ℕ) → UsedIs text ns → ⊥
none_after text dash ms r a more [] u = dash u.is
none_after text dash ms r a more (n ∷ ns) u = let p = places_one text ms (n ∷ ns) r (codes "\n") a (used_places text n ns u) in more p.1

-- ---- the whole line

-- what stands behind the names
abbrev end_of : Match → List ℕ
end_of m = list_text m.used ++ codes "\n"

-- what stands behind a match's number
abbrev behind_number : Plan → Match → List ℕ
behind_number q m = before_used q m.bound (end_of m)

-- what stands behind a window's number
abbrev behind_window : Plan → Match → List ℕ
behind_window q m = codes " m=" ++ (decimal m.number ++ behind_number q m)

-- a line, part by part
line_parts : (q : Plan) (m : Match) → line q m ≡ codes "w=" ++ (decimal m.window ++ behind_window q m)
line_parts q m = simp append_assoc

module _ (q : Plan) (text : List ℕ) (m : Match) (is : IsLine q m text) where
  pub window_at : LabelledAt (codes "w=") 4294967295 text m.window (behind_window q m)
  window_at = record { within = let w : m.window < 2 ^ 32 = is.held.window in omega arith; cut = is.is ∙ line_parts q m; ends = refl }

  pub number_at : LabelledAt (codes " m=") 18446744073709551615 (behind_window q m) m.number (behind_number q m)
  number_at = record {
    within = let w : m.number < 2 ^ 64 = is.held.number in omega arith;
    cut = refl;
    ends = ends_number (behind_number q m) (before_used_ends q m.bound (end_of m));
  }

  pub bound_at : BindingsAt q (behind_number q m) m.bound (end_of m)
  bound_at = record { binds = is.binds; names = is.held.names; are = is.held.bound; cut = refl }

  pub used_at : UsedIs (end_of m) m.used
  used_at = record { are = is.held.used; is = refl }

-- a line, read part by part
module _ (q : Plan) (text : List ℕ) (m : Match) (is : IsLine q m text) where
  pub no_window : ((n : ℕ) (rest : List ℕ) → LabelledAt (codes "w=") 4294967295 text n rest → ⊥) → ⊥
  no_window none = none m.window (behind_window q m) (window_at q text m is)

  module _ (window : ℕ) (second : List ℕ) (w : LabelledAt (codes "w=") 4294967295 text window second) where
    window_same : (window ≡ m.window) × (second ≡ behind_window q m)
    window_same = labelled_one (codes "w=") 4294967295 text (omega arith) window m.window second (behind_window q m) w (window_at q text m is)

    number_here : LabelledAt (codes " m=") 18446744073709551615 second m.number (behind_number q m)
    number_here = subst (λ (l : List ℕ). LabelledAt (codes " m=") 18446744073709551615 l m.number (behind_number q m)) (sym window_same.1) (number_at q text m is)

    pub no_number : ((n : ℕ) (rest : List ℕ) → LabelledAt (codes " m=") 18446744073709551615 second n rest → ⊥) → ⊥
    no_number none = none m.number (behind_number q m) number_here

    module _ (number : ℕ) (third : List ℕ) (k : LabelledAt (codes " m=") 18446744073709551615 second number third) where
      number_same : (number ≡ m.number) × (third ≡ behind_number q m)
      number_same = labelled_one (codes " m=") 18446744073709551615 second (omega arith) number m.number third (behind_number q m) k number_here

      bound_here : BindingsAt q third m.bound (end_of m)
      bound_here = subst (λ (l : List ℕ). BindingsAt q l m.bound (end_of m)) (sym number_same.1) (bound_at q text m is)

      pub no_bound : ((all : List (ℕ × List ℕ)) (rest : List ℕ) → BindingsAt q third all rest → ⊥) → ⊥
      no_bound none = none m.bound (end_of m) bound_here

      module _ (bound : List (ℕ × List ℕ)) (fourth : List ℕ) (b : BindingsAt q third bound fourth) where
        bound_same : (bound ≡ m.bound) × (fourth ≡ end_of m)
        bound_same = bindings_one q third bound m.bound fourth (end_of m) b bound_here

        used_here : UsedIs fourth m.used
        used_here = subst (λ (l : List ℕ). UsedIs l m.used) (sym bound_same.1) (used_at q text m is)

        pub no_used : ((ns : List ℕ) → UsedIs fourth ns → ⊥) → ⊥
        no_used none = none m.used used_here

        pub same_match : (used : List ℕ) → UsedIs fourth used → (record { window = window; number = number; bound = bound; used = used }) ≡ m
        same_match used u = λ i. record { window = window_same.0 i; number = number_same.0 i; bound = bound_same.0 i; used = used_one fourth used m.used u used_here i }

-- the line of the match whose parts were read
pub line_read : (q : Plan) (text second third fourth : List ℕ) (m : Match) → LabelledAt (codes "w=") 4294967295 text m.window second → LabelledAt (codes " m=") 18446744073709551615 second m.number third
    → BindingsAt q third m.bound fourth → UsedIs fourth m.used → IsLine q m text
line_read q text second third fourth m w k b u = record {
  held = record {
    window = let x : m.window ≤ 4294967295 = w.within in omega arith;
    number = let x : m.number ≤ 18446744073709551615 = k.within in omega arith;
    names = b.names;
    bound = b.are;
    used = u.are;
  };
  binds = b.binds;
  is =
      w.cut
      ∙ ap (λ (l : List ℕ). codes "w=" ++ (decimal m.window ++ l)) (k.cut
      ∙ ap (λ (l : List ℕ). codes " m=" ++ (decimal m.number ++ l)) (b.cut ∙ ap (λ (l : List ℕ). before_used q m.bound l) u.is))
      ∙ sym (line_parts q m);
}

pub one_match : OneMatch
one_match q text m other a b =
    same_match q text other b m.window (behind_window q m) (window_at q text m a) m.number (behind_number q m) (number_at q text m a) m.bound (end_of m) (bound_at q text m a) m.used (used_at q text m a)
