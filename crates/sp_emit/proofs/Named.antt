-- The names of a plan with their events in front of texts.
use Rattle.std.proofs.Common.{◌≡◌, ◌≢◌, ℕ, ◌+◌, ◌<◌, ◌≤◌, ◌^◌, false, List, [], ◌∷◌, ◌++◌, drop, length, get_or, map, take, refl, sym, ◌∙◌, ap, subst, arith, append_assoc, append-nil}
use Rattle.std.specs.Prelude.{codes, slice_get}
use Rattle.std.specs.List.{All, flat_map}
use Rattle.std.proofs.lemmas.Grind.{flat_map-append}
use Rattle.std.proofs.lemmas.List.{append_cancel_left, drop_all, drop_more, map-append, take_all, take_more}
use Rattle.std.proofs.lemmas.List.Elements.{All-nil, All-head, All-tail, All-push}
use Rattle.sp_base.specs.Commas.{commas}
use Rattle.sp_plan.specs.declared.plan.Plan.{Plan}
use Rattle.sp_plan.specs.Lines.{binding_text, name_text}
use Rattle.sp_plan.specs.Runs.{bound_names}
use Rattle.sp_emit.specs.Matches.{ArePlaces}
use Rattle.sp_emit.specs.Reading.{heads, goes_on, PlacesAt, BindingAt, BindingsAt}
use Rattle.sp_emit.proofs.Commas.{places_one}

-- a name's number with the numbers of its events
abbrev pub Binding : Type 0
Binding = ℕ × List ℕ

abbrev pub HasSome : Binding → Type 0
HasSome pair = pair.1 ≢ []

abbrev pub IsByte : Binding → Type 0
IsByte pair = pair.0 < 2 ^ 8

abbrev pub HasPlaces : Binding → Type 0
HasPlaces pair = ArePlaces pair.1

abbrev pub numbers : List Binding → List ℕ
numbers bound = map (λ pair. pair.0) bound

-- bindings, and behind them the announcement of the consumed numbers
abbrev pub before_used : Plan → List Binding → List ℕ → List ℕ
before_used q bound rest = flat_map (binding_text q) bound ++ (codes " used=" ++ rest)

pub before_used_ends : (q : Plan) (bound : List Binding) (rest : List ℕ) → heads goes_on (before_used q bound rest) ≡ false
before_used_ends q [] rest = refl
before_used_ends q (pair ∷ bound) rest = refl

-- a name with its events, and what follows
binding_then : (q : Plan) (pair : Binding) (l : List ℕ) → binding_text q pair ++ l ≡ codes " " ++ (name_text (slice_get q.names pair.0) ++ (codes "=" ++ (commas pair.1 ++ l)))
binding_then q pair l = simp append_assoc

-- behind a name stand its events
pub behind_name : (text name rest ns r : List ℕ) → text ≡ codes " " ++ (name ++ (codes "=" ++ rest)) → BindingAt name text ns r → PlacesAt rest ns r
behind_name text name rest ns r e a = record {
  some = a.some;
  are = a.are;
  cut =
      append_cancel_left (codes "=") rest (commas ns ++ r)
      (append_cancel_left name (codes "=" ++ rest) (codes "=" ++ (commas ns ++ r))
      (append_cancel_left (codes " ") (name ++ (codes "=" ++ rest)) (name ++ (codes "=" ++ (commas ns ++ r))) (sym e ∙ a.cut)));
  ends = a.ends;
}

pub with_name : (text name rest ns r : List ℕ) → text ≡ codes " " ++ (name ++ (codes "=" ++ rest)) → PlacesAt rest ns r → BindingAt name text ns r
with_name text name rest ns r e a = record { some = a.some; are = a.are; cut = e ∙ ap (λ (l : List ℕ). codes " " ++ (name ++ (codes "=" ++ l))) a.cut; ends = a.ends }

pub binding_one : (name text ms ns r s : List ℕ) → BindingAt name text ms r → BindingAt name text ns s → (ms ≡ ns) × (r ≡ s)
binding_one name text ms ns r s a b = places_one (commas ms ++ r) ms ns r s (behind_name text name (commas ms ++ r) ms r a.cut a) (behind_name text name (commas ms ++ r) ns s a.cut b)

-- the first of the bindings in front of a text
first_binding : (q : Plan) (text name : List ℕ) (pair : Binding) (bound : List Binding) (r : List ℕ) → name ≡ name_text (slice_get q.names pair.0) → HasSome pair → HasPlaces pair
    → text ≡ before_used q (pair ∷ bound) r → BindingAt name text pair.1 (before_used q bound r)
first_binding q text name pair bound r is some are e = record {
  some = some;
  are = are;
  cut =
      e ∙ append_assoc (binding_text q pair) (flat_map (binding_text q) bound) (codes " used=" ++ r)
      ∙ binding_then q pair (before_used q bound r)
      ∙ ap (λ (l : List ℕ). codes " " ++ (l ++ (codes "=" ++ (commas pair.1 ++ before_used q bound r)))) (sym is);
  ends = before_used_ends q bound r;
}

-- bindings of the same names are known by their text
pub bound_one : (q : Plan) (a b : List Binding) (r s : List ℕ) → numbers a ≡ numbers b → All HasSome a → All HasSome b → All HasPlaces a → All HasPlaces b
    → before_used q a r ≡ before_used q b s → (a ≡ b) × (r ≡ s)
bound_one q [] [] r s n c d f g e = (refl, append_cancel_left (codes " used=") r s e)
bound_one q [] (y ∷ b) r s n c d f g e = cc
bound_one q (x ∷ a) [] r s n c d f g e = cc
bound_one q (x ∷ a) (y ∷ b) r s n c d f g e =
    let same : x.0 ≡ y.0 = cc in
    let p = binding_one (name_text (slice_get q.names x.0)) (before_used q (x ∷ a) r) x.1 y.1 (before_used q a r) (before_used q b s)
    (first_binding q (before_used q (x ∷ a) r) (name_text (slice_get q.names x.0)) x a r refl (All-head HasSome x a c) (All-head HasPlaces x a f) refl)
    (first_binding q (before_used q (x ∷ a) r) (name_text (slice_get q.names x.0)) y b s (ap (λ (k : ℕ). name_text (slice_get q.names k)) same) (All-head HasSome y b d) (All-head HasPlaces y b g) e) in
    let i = bound_one q a b r s (cc) (All-tail HasSome x a c) (All-tail HasSome y b d) (All-tail HasPlaces x a f) (All-tail HasPlaces y b g) p.1 in
    ((λ j. (same j, p.0 j) ∷ i.0 j), i.1)

pub bindings_one : (q : Plan) (text : List ℕ) (a b : List Binding) (r s : List ℕ) → BindingsAt q text a r → BindingsAt q text b s → (a ≡ b) × (r ≡ s)
bindings_one q text a b r s c d = bound_one q a b r s (c.binds.names ∙ sym d.binds.names) c.binds.each d.binds.each c.are d.are (sym c.cut ∙ d.cut)

-- The bindings still to come, where so many are read.
pub record Coming (q : Plan) (bound : List Binding) (rest : List ℕ) (i : ℕ) (all : List Binding) (r : List ℕ) : Type 0 where
  pub more : List Binding
  pub all_is : all ≡ bound ++ more
  pub names : numbers more ≡ drop i (bound_names q)
  pub each : All HasSome more
  pub bytes : All IsByte more
  pub are : All HasPlaces more
  pub rest_is : rest ≡ before_used q more r

-- The bindings read so far, and that all bindings in front of the text begin with them.
pub record Going (q : Plan) (text : List ℕ) (bound : List Binding) (rest : List ℕ) (i : ℕ) : Type 0 where
  pub names : numbers bound ≡ take i (bound_names q)
  pub each : All HasSome bound
  pub bytes : All IsByte bound
  pub are : All HasPlaces bound
  pub cut : text ≡ flat_map (binding_text q) bound ++ rest
  pub only : (all : List Binding) (r : List ℕ) → BindingsAt q text all r → Coming q bound rest i all r

pub sets_out : (q : Plan) (text : List ℕ) (bound : List Binding) → bound ≡ [] → Going q text bound text 0
sets_out q text bound e = subst (λ (l : List Binding). Going q text l text 0) (sym e) (record {
  names = refl;
  each = All-nil HasSome;
  bytes = All-nil IsByte;
  are = All-nil HasPlaces;
  cut = refl;
  only = λ all r a. record { more = all; all_is = refl; names = a.binds.names; each = a.binds.each; bytes = a.names; are = a.are; rest_is = a.cut };
})

module _ (q : Plan) (text : List ℕ) (bound : List Binding) (rest : List ℕ) (i : ℕ) (g : Going q text bound rest i) where
  module _ (at : ℕ) (inside : i < length (bound_names q)) (at_is : at ≡ get_or (bound_names q) i at) where
    -- that name is the next
    cut_here : drop i (bound_names q) ≡ at ∷ drop (i + 1) (bound_names q)
    cut_here = drop_more (bound_names q) i at inside ∙ ap (λ (n : ℕ). n ∷ drop (i + 1) (bound_names q)) (sym at_is)

    -- the next of the bindings in front of a text
    pub record Next (all : List Binding) (r : List ℕ) : Type 0 where
      pub pair : Binding
      pub more : List Binding
      pub is : pair.0 ≡ at
      pub all_is : all ≡ bound ++ pair ∷ more
      pub names : numbers more ≡ drop (i + 1) (bound_names q)
      pub each : All HasSome (pair ∷ more)
      pub bytes : All IsByte (pair ∷ more)
      pub are : All HasPlaces (pair ∷ more)
      pub rest_is : rest ≡ before_used q (pair ∷ more) r

    next : (all : List Binding) (r : List ℕ) → BindingsAt q text all r → Next all r
    next all r a = let c = g.only all r a in by c.more c.all_is (c.names ∙ cut_here) c.each c.bytes c.are c.rest_is
      where
        by : (more : List Binding) → all ≡ bound ++ more → numbers more ≡ at ∷ drop (i + 1) (bound_names q) → All HasSome more → All IsByte more → All HasPlaces more → rest ≡ before_used q more r → Next all r
        by [] b c d e f h = cc
        by (pair ∷ more) b c d e f h = record { pair = pair; more = more; is = cc; all_is = b; names = cc; each = d; bytes = e; are = f; rest_is = h }

    pub none_past_bytes : 2 ^ 8 ≤ at → (all : List Binding) (r : List ℕ) → BindingsAt q text all r → ⊥
    none_past_bytes past all r a =
        let n = next all r a in
        let is : n.pair.0 ≡ at = n.is in
        let byte : n.pair.0 < 2 ^ 8 = All-head IsByte n.pair n.more n.bytes in
        omega arith

    module _ (name : List ℕ) (name_is : name ≡ name_text (slice_get q.names at)) where
      next_at : (all : List Binding) (r : List ℕ) (n : Next all r) → BindingAt name rest n.pair.1 (before_used q n.more r)
      next_at all r n =
          first_binding q rest name n.pair n.more r (name_is ∙ ap (λ (k : ℕ). name_text (slice_get q.names k)) (sym n.is)) (All-head HasSome n.pair n.more n.each) (All-head HasPlaces n.pair n.more n.are) n.rest_is

      pub none_next : ((ns after : List ℕ) → BindingAt name rest ns after → ⊥) → (all : List Binding) (r : List ℕ) → BindingsAt q text all r → ⊥
      none_next none all r a = let n = next all r a in none n.pair.1 (before_used q n.more r) (next_at all r n)

      pub goes : (items : List Binding) (k : ℕ) (ns after : List ℕ) → items ≡ bound ++ (k, ns) ∷ [] → k ≡ at → k < 2 ^ 8 → BindingAt name rest ns after → Going q text items after (i + 1)
      goes items k ns after e same byte b = subst (λ (l : List Binding). Going q text l after (i + 1)) (sym e) (record {
        names = map-append (λ pair. pair.0) bound ((k, ns) ∷ []) ∙ (λ j. g.names j ++ (same ∙ at_is) j ∷ []) ∙ sym (take_more (bound_names q) i at inside);
        each = All-push HasSome bound (k, ns) g.each b.some;
        bytes = All-push IsByte bound (k, ns) g.bytes byte;
        are = All-push HasPlaces bound (k, ns) g.are b.are;
        cut =
            g.cut
            ∙ ap (λ (l : List ℕ). flat_map (binding_text q) bound ++ l) (b.cut ∙ sym (one_binding ns after))
            ∙ sym (append_assoc (flat_map (binding_text q) bound) (flat_map (binding_text q) ((k, ns) ∷ [])) after)
            ∙ ap (λ (l : List ℕ). l ++ after) (sym (flat_map-append (binding_text q) bound ((k, ns) ∷ [])));
        only = λ all r a. only all r (next all r a);
      })
        where
          one_binding : (ns after : List ℕ) → flat_map (binding_text q) ((k, ns) ∷ []) ++ after ≡ codes " " ++ (name ++ (codes "=" ++ (commas ns ++ after)))
          one_binding ns after =
              ap (λ (l : List ℕ). l ++ after) (append-nil (binding_text q (k, ns)))
              ∙ binding_then q (k, ns) after
              ∙ ap (λ (l : List ℕ). codes " " ++ (l ++ (codes "=" ++ (commas ns ++ after)))) (ap (λ (m : ℕ). name_text (slice_get q.names m)) same ∙ sym name_is)

          only : (all : List Binding) (r : List ℕ) → Next all r → Coming q (bound ++ (k, ns) ∷ []) after (i + 1) all r
          only all r n =
              let p = binding_one name rest n.pair.1 ns (before_used q n.more r) after (next_at all r n) b in
              let key : n.pair.0 ≡ k = n.is ∙ sym same in
              let pair : n.pair ≡ (k, ns) = λ j. (key j, p.0 j) in
              record {
                more = n.more;
                all_is = n.all_is ∙ ap (λ (x : Binding). bound ++ x ∷ n.more) pair ∙ sym (append_assoc bound ((k, ns) ∷ []) n.more);
                names = n.names;
                each = All-tail HasSome n.pair n.more n.each;
                bytes = All-tail IsByte n.pair n.more n.bytes;
                are = All-tail HasPlaces n.pair n.more n.are;
                rest_is = sym p.1;
              }

  module _ (through : length (bound_names q) ≤ i) where
    -- no binding is left
    rest_at_end : (all : List Binding) (r : List ℕ) → BindingsAt q text all r → rest ≡ codes " used=" ++ r
    rest_at_end all r a = let c = g.only all r a in by c.more (c.names ∙ drop_all i (bound_names q) through) c.rest_is
      where
        by : (more : List Binding) → numbers more ≡ [] → rest ≡ before_used q more r → rest ≡ codes " used=" ++ r
        by [] n e = e
        by (pair ∷ more) n e = cc

    pub none_used : ((after : List ℕ) → rest ≢ codes " used=" ++ after) → (all : List Binding) (r : List ℕ) → BindingsAt q text all r → ⊥
    none_used none all r a = none r (rest_at_end all r a)

    pub arrives : (after : List ℕ) → rest ≡ codes " used=" ++ after → BindingsAt q text bound after
    arrives after e = record {
      binds = record { names = g.names ∙ take_all i (bound_names q) through; each = g.each };
      names = g.bytes;
      are = g.are;
      cut = g.cut ∙ ap (λ (l : List ℕ). flat_map (binding_text q) bound ++ l) e;
    }
