-- A run from its two lists.
use Rattle.std.proofs.Common.{◌≡◌, ℕ, ◌<◌, Bool, true, false, cond, ◌||◌, ◌==◌, List, [], ◌∷◌, ◌++◌, length, map, Option, Some, None, refl, sym, ap, subst, ◌-◌, ◌∙◌, Bor, arith}
use Rattle.std.specs.Prelude.{is_some, option_map, slice_get}
use Rattle.std.specs.Option.{option_copied}
use Rattle.std.specs.List.{All, AllPairs, filter, last_or, list_any}
use Rattle.std.proofs.lemmas.List.{map_push}
use Rattle.std.proofs.lemmas.List.Elements.{All-map, All-push}
use Rattle.std.proofs.lemmas.List.Quantifiers.{all_pairs_push}
use Rattle.sp_plan.specs.declared.event.Event.{Event}
use Rattle.sp_plan.specs.Bounds.{IsSmall}
use Rattle.sp_plan.specs.Runs.{Pair, Run, bound_events, is_bound}
use Rattle.sp_plan.specs.Values.{last_bound}
use Rattle.sp_scan.specs.inside.Joined.{joined, AreJoined}

-- the name and the number of a pair
abbrev pub key : Pair → ℕ × ℕ
key pair = (pair.name, pair.number)

pub keys_joined : (ps : List (ℕ × ℕ)) (es : List (ℕ × Event)) → map (λ p. p.0) ps ≡ map (λ e. e.0) es → map key (joined ps es) ≡ ps
keys_joined [] es same = refl
keys_joined (p ∷ ps) [] same = cc
keys_joined (p ∷ ps) (e ∷ es) same =
    let tail : map (λ p. p.0) ps ≡ map (λ e. e.0) es = cc in
    ap (λ rest. p ∷ rest) (keys_joined ps es tail)

pub events_joined : (ps : List (ℕ × ℕ)) (es : List (ℕ × Event)) → map (λ p. p.0) ps ≡ map (λ e. e.0) es → bound_events (joined ps es) ≡ es
events_joined [] [] same = refl
events_joined [] (e ∷ es) same = cc
events_joined (p ∷ ps) [] same = cc
events_joined (p ∷ ps) (e ∷ es) same =
    let head : p.0 ≡ e.0 = cc in
    let tail : map (λ p. p.0) ps ≡ map (λ e. e.0) es = cc in
    λ i. (head i, e.1) ∷ events_joined ps es tail i

-- one pair more
pub joined_push : (ps : List (ℕ × ℕ)) (es : List (ℕ × Event)) (name number : ℕ) (event : Event) → map (λ p. p.0) ps ≡ map (λ e. e.0) es
    → joined (ps ++ (name, number) ∷ []) (es ++ (name, event) ∷ []) ≡ joined ps es ++ (record { name = name; number = number; event = event }) ∷ []
joined_push [] [] name number event same = refl
joined_push [] (e ∷ es) name number event same = cc
joined_push (p ∷ ps) [] name number event same = cc
joined_push (p ∷ ps) (e ∷ es) name number event same =
    let tail : map (λ p. p.0) ps ≡ map (λ e. e.0) es = cc in
    let first : Pair = record { name = p.0; number = p.1; event = e.1 } in
    ap (λ (rest : Run). first ∷ rest) (joined_push ps es name number event tail)

numbers_of_keys : (r : Run) → map (λ p. p.1) (map key r) ≡ map (λ pair. pair.number) r
numbers_of_keys [] = refl
numbers_of_keys (x ∷ r) = ap (λ ns. x.number ∷ ns) (numbers_of_keys r)

pub are_joined_push : (ps : List (ℕ × ℕ)) (es : List (ℕ × Event)) (name number : ℕ) (event : Event) → AreJoined ps es → All (λ pair. pair.number < number) (joined ps es) → IsSmall event
    → AreJoined (ps ++ (name, number) ∷ []) (es ++ (name, event) ∷ [])
are_joined_push ps es name number event fit past small = record {
  same_names = map_push (λ p. p.0) ps (name, number) ∙ ap (λ l. l ++ name ∷ []) fit.same_names ∙ sym (map_push (λ e. e.0) es (name, event));
  rising = subst (AllPairs (λ m n. m < n)) (sym (map_push (λ p. p.1) ps (name, number))) (all_pairs_push (λ m n. m < n) (map (λ p. p.1) ps) number fit.rising below);
  small = All-push (λ pair. IsSmall pair.1) es (name, event) fit.small small;
}
  where
    below : All (λ n. n < number) (map (λ p. p.1) ps)
    below = subst (All (λ n. n < number)) (sym (numbers_of_keys (joined ps es)) ∙ ap (map (λ p. p.1)) (keys_joined ps es fit.same_names)) (All-map (λ n. n < number) (λ pair. pair.number) (joined ps es) past)

-- what is asked of names and numbers alone
pub any_key : (f : ℕ × ℕ → Bool) (r : Run) → list_any f (map key r) ≡ list_any (λ pair. f (key pair)) r
any_key f [] = refl
any_key f (x ∷ r) = ap (λ rest. f (key x) || rest) (any_key f r)

pub numbers_key : (f : ℕ × ℕ → Bool) (r : Run) → map (λ p. p.1) (filter f (map key r)) ≡ map (λ pair. pair.number) (filter (λ pair. f (key pair)) r)
numbers_key f [] = refl
numbers_key f (x ∷ r) = one (f (key x)) (numbers_key f r)
  where
    one : (b : Bool) → map (λ p. p.1) (filter f (map key r)) ≡ map (λ pair. pair.number) (filter (λ pair. f (key pair)) r)
        → map (λ p. p.1) (cond b (key x ∷ filter f (map key r)) (filter f (map key r))) ≡ map (λ pair. pair.number) (cond b (x ∷ filter (λ pair. f (key pair)) r) (filter (λ pair. f (key pair)) r))
    one true ih = ap (λ ns. x.number ∷ ns) ih
    one false ih = ih

last_key_or : (r : Run) (o : Option (ℕ × ℕ)) (p : Option Pair) → option_map (λ k. k.0) o ≡ option_map (λ x. x.name) p → option_map (λ k. k.0) (last_or o (map key r)) ≡ option_map (λ x. x.name) (last_or p r)
last_key_or [] o p same = same
last_key_or (x ∷ r) o p same = last_key_or r (Some (key x)) (Some x) refl

pub last_key : (r : Run) → option_map (λ k. k.0) (last_or None (map key r)) ≡ option_map (λ x. x.name) (last_or None r)
last_key r = last_key_or r None None refl

-- an event is bound to a name where a last one is
some_last : {X : Type 0} (xs : List X) (o : Option X) → is_some o ≡ true → is_some (last_or o xs) ≡ true
some_last [] o some = some
some_last (x ∷ xs) o some = some_last xs (Some x) refl

pub bound_there : (name : ℕ) (r : Run) → is_some (last_bound name (bound_events r)) ≡ is_bound r name
bound_there name [] = refl
bound_there name (x ∷ r) = one (x.name == name) (bound_there name r)
  where
    one : (b : Bool) → is_some (last_bound name (bound_events r)) ≡ is_bound r name
        → is_some (last_or None (cond b ((x.name, x.event) ∷ filter (λ pair. pair.0 == name) (bound_events r)) (filter (λ pair. pair.0 == name) (bound_events r)))) ≡ (b || is_bound r name)
    one true ih = some_last (filter (λ pair. pair.0 == name) (bound_events r)) (Some (x.name, x.event)) refl
    one false ih = ih

-- what is there, through a reference or a part of it
pub some_copied : {X : Type 0} (o : Option (Bor X)) → is_some o ≡ is_some (option_copied o)
some_copied None = refl
some_copied (Some x) = refl

pub some_map : {X Y : Type 0} (f : X → Y) (o : Option X) → is_some (option_map f o) ≡ is_some o
some_map f None = refl
some_map f (Some x) = refl

-- the last element is the one before the end
last_get : {X : Type 0} (xs : List X) (x : X) (o : Option X) → last_or o (x ∷ xs) ≡ slice_get (x ∷ xs) (length xs)
last_get [] x o = refl
last_get (y ∷ ys) x o = last_get ys y (Some x)

pub last_at : {X : Type 0} (xs : List X) → slice_get xs (length xs - 1) ≡ last_or None xs
last_at [] = refl
last_at (x ∷ xs) = let e : length (x ∷ xs) - 1 ≡ length xs = omega arith in ap (slice_get (x ∷ xs)) e ∙ sym (last_get xs x None)

-- a fact of the lists with one pair more, as they are read
pub with_pair : (P : List (ℕ × ℕ) → List (ℕ × Event) → Type 0) (before old new : List (ℕ × ℕ)) (es events : List (ℕ × Event)) (p : ℕ × ℕ) (e : ℕ × Event) → new ≡ old ++ p ∷ [] → old ≡ before → events ≡ es ++ e ∷ [] → P (before ++ p ∷ []) (es ++ e ∷ []) → P new events
with_pair P before old new es events p e pushed same bound holds = subst (λ (l : List (ℕ × ℕ)). P l events) (sym (pushed ∙ ap (λ (l : List (ℕ × ℕ)). l ++ p ∷ []) same)) (subst (P (before ++ p ∷ [])) (sym bound) holds)
