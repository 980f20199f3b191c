-- The versions of a tree, counted: each stands there once.
use Rattle.std.proofs.Common.{◌≡◌, ℕ, suc, ◌+◌, ◌≤◌, Bool, true, false, not, cond, ◌==◌, ◌&&◌, ◌||◌, List, [], ◌∷◌, length, map, filter, Option}
use Rattle.std.proofs.Common.{Some, None, is_some, is_none, refl, sym, ap, subst, ◌∙◌, arith}
use Rattle.std.specs.Option.{option_to_list}
use Rattle.std.proofs.lemmas.Bool.{eqb-true, both_ways, false≢true}
use Rattle.std.proofs.lemmas.Bool.Decides.{nat_tests}
use Rattle.sp_group.specs.Family.{entry_at}
use Rattle.sp_tree.specs.Grown.{Entry, FallFrom, kin, parent_of, root_in}
use Rattle.sp_tree.specs.Version.{Version}
use Rattle.sp_pick.specs.Ranks.{ids_by}
use Rattle.sp_pick.proofs.Standing.{id_below}
use Rattle.sp_pick.proofs.Fronts.{once}
use Rattle.sp_pick.proofs.Taken.{is_it, with_out}

module _ {V : Type 0} where
  -- whether a version is live, and its parent
  abbrev pub live_in : List (Entry V) → ℕ → Bool
  live_in es id = is_some (entry_at kin es id)

  abbrev pub parent_in : List (Entry V) → ℕ → Option ℕ
  parent_in es id = parent_of (entry_at kin es id)

  abbrev id_of : Entry V → ℕ
  id_of e = e.version.id

  -- an id that is not below
  absent : (es : List (Entry V)) (id : ℕ) → FallFrom id es → entry_at kin es id ≡ None
  absent es id fall = one (entry_at kin es id) refl
    where
      one : (o : Option (Entry V)) → entry_at kin es id ≡ o → entry_at kin es id ≡ None
      one None at = at
      one (Some e) at = let less = id_below id es id e fall at in absurd (omega arith)

  pub found : (q : Option ℕ → Bool) (id top : ℕ) (es : List (Entry V)) → FallFrom top es → length (filter (is_it id) (ids_by q es))
      ≡ once (live_in es id && q (parent_in es id))
  found q id top [] fall = refl
  found q id top (e ∷ es) fall = one (e.version.id == id) refl (q e.version.parent) refl (found q id e.version.id es fall.1)
    where
      none : e.version.id ≡ id → once (live_in es id && q (parent_in es id)) ≡ 0
      none is = ap (λ (o : Option (Entry V)). once (is_some o && q (parent_of o))) (absent es id (subst (λ n. FallFrom n es) is fall.1))

      one : (b : Bool) → (e.version.id == id) ≡ b → (c : Bool) → q e.version.parent ≡ c → length (filter (is_it id) (ids_by q es))
          ≡ once (live_in es id && q (parent_in es id))
          → length (filter (is_it id)
          (map (λ (x : Entry V). x.version.id) (cond c (e ∷ filter (λ x. q x.version.parent) es) (filter (λ x. q x.version.parent) es))))
          ≡ once (is_some (cond b (Some e) (entry_at kin es id)) && q (parent_of (cond b (Some e) (entry_at kin es id))))
      one true is true up rest =
          ap (λ (b : Bool). length (cond b (e.version.id ∷ filter (is_it id) (ids_by q es)) (filter (is_it id) (ids_by q es)))) is
          ∙ ap suc (rest ∙ none (eqb-true e.version.id id is)) ∙ ap once (sym up)
      one true is false up rest = rest ∙ none (eqb-true e.version.id id is) ∙ ap once (sym up)
      one false is true up rest = ap
          (λ (b : Bool). length (cond b (e.version.id ∷ filter (is_it id) (ids_by q es)) (filter (is_it id) (ids_by q es)))) is ∙ rest
      one false is false up rest = rest

  -- the version without a parent, where there is one alone
  pub roots_are : (es : List (Entry V)) → length (filter (λ (v : Version). is_none v.parent) (map (λ e. e.version) es)) ≤ 1 → ids_by is_none es
      ≡ option_to_list (root_in es)
  roots_are [] few = refl
  roots_are (e ∷ es) few = one e.version.parent few (roots_are es)
    where
      long : (es : List (Entry V)) → length (filter (λ (v : Version). is_none v.parent) (map (λ e. e.version) es)) ≡ 0 → ids_by is_none es ≡ []
      long [] none = refl
      long (x ∷ xs) none = two x.version.parent none (long xs)
        where
          two : (o : Option ℕ)
              → length (cond (is_none o) (x.version ∷ filter (λ (v : Version). is_none v.parent) (map (λ e. e.version) xs))
              (filter (λ (v : Version). is_none v.parent) (map (λ e. e.version) xs))) ≡ 0
              → (length (filter (λ (v : Version). is_none v.parent) (map (λ e. e.version) xs)) ≡ 0 → ids_by is_none xs ≡ [])
              → map (λ (y : Entry V). y.version.id)
              (cond (is_none o) (x ∷ filter (λ y. is_none y.version.parent) xs) (filter (λ y. is_none y.version.parent) xs)) ≡ []
          two None none rest = absurd (omega arith)
          two (Some p) none rest = rest none

      one : (o : Option ℕ)
          → length (cond (is_none o) (e.version ∷ filter (λ (v : Version). is_none v.parent) (map (λ e. e.version) es))
          (filter (λ (v : Version). is_none v.parent) (map (λ e. e.version) es))) ≤ 1
          → (length (filter (λ (v : Version). is_none v.parent) (map (λ e. e.version) es)) ≤ 1 → ids_by is_none es ≡ option_to_list (root_in es))
          → map (λ (y : Entry V). y.version.id)
          (cond (is_none o) (e ∷ filter (λ y. is_none y.version.parent) es) (filter (λ y. is_none y.version.parent) es))
          ≡ option_to_list (cond (is_some o) (root_in es) (Some e.version.id))
      one None few rest = ap (λ (l : List ℕ). e.version.id ∷ l) (long es (omega arith))
      one (Some p) few rest = rest few

  -- those that are not out
  abbrev pub not_out : (ℕ → Bool) → List (Entry V) → List (Entry V)
  not_out out es = filter (λ e. not (out e.version.id)) es

  same_rest : (r : ℕ) (out : ℕ → Bool) (es : List (Entry V)) (top : ℕ) → top ≤ r → FallFrom top es → not_out (with_out r out) es ≡ not_out out es
  same_rest r out [] top low fall = refl
  same_rest r out (e ∷ es) top low fall =
      let less = fall.0 in
      let other : (e.version.id == r) ≡ false = grind (arith, nat_tests) in
      ap (λ (b : Bool). cond (not (b || out e.version.id)) (e ∷ not_out (with_out r out) es) (not_out (with_out r out) es)) other
      ∙ ap (λ (l : List (Entry V)). cond (not (out e.version.id)) (e ∷ l) l) (same_rest r out es e.version.id (omega arith) fall.1)

  -- one more is out
  pub one_less : (r : ℕ) (out : ℕ → Bool) (es : List (Entry V)) (top : ℕ) → FallFrom top es → live_in es r ≡ true → out r ≡ false
      → length (not_out (with_out r out) es) + 1 ≡ length (not_out out es)
  one_less r out [] top fall live waits = absurd (false≢true live)
  one_less r out (e ∷ es) top fall live waits = one (e.version.id == r) refl live (λ there. one_less r out es e.version.id fall.1 there waits)
    where
      one : (b : Bool) → (e.version.id == r) ≡ b → is_some (cond b (Some e) (entry_at kin es r)) ≡ true
          → (live_in es r ≡ true → length (not_out (with_out r out) es) + 1 ≡ length (not_out out es))
          → length (cond (not (b || out e.version.id)) (e ∷ not_out (with_out r out) es) (not_out (with_out r out) es)) + 1
          ≡ length (cond (not (out e.version.id)) (e ∷ not_out out es) (not_out out es))
      one true is there rest =
          let own = eqb-true e.version.id r is in
          let same = ap length (same_rest r out es e.version.id (omega arith) fall.1) in
          let more : length (not_out (with_out r out) es) + 1 ≡ suc (length (not_out out es)) = omega arith in
          more ∙ sym (ap (λ (b : Bool). length (cond (not b) (e ∷ not_out out es) (not_out out es))) (subst (λ n. out n ≡ false) (sym own) waits))
      one false is there rest = two (out e.version.id) (rest there)
        where
          two : (b : Bool) → length (not_out (with_out r out) es) + 1 ≡ length (not_out out es)
              → length (cond (not b) (e ∷ not_out (with_out r out) es) (not_out (with_out r out) es)) + 1
              ≡ length (cond (not b) (e ∷ not_out out es) (not_out out es))
          two true less = less
          two false less = omega arith

  -- where none is left all are out
  pub none_left : (out : ℕ → Bool) (es : List (Entry V)) (id : ℕ) → length (not_out out es) ≡ 0 → live_in es id ≡ true → out id ≡ false → ⊥
  none_left out [] id none live waits = false≢true live
  none_left out (e ∷ es) id none live waits = one (e.version.id == id) refl live (out e.version.id) refl none
      (λ n there. none_left out es id n there waits)
    where
      one : (b : Bool) → (e.version.id == id) ≡ b → is_some (cond b (Some e) (entry_at kin es id)) ≡ true → (c : Bool) → out e.version.id ≡ c
          → length (cond (not c) (e ∷ not_out out es) (not_out out es)) ≡ 0
          → (length (not_out out es) ≡ 0 → live_in es id ≡ true → ⊥) → ⊥
      one b is there false gone none rest = omega arith
      one true is there true gone none rest = both_ways (out id) waits (subst (λ n. out n ≡ true) (eqb-true e.version.id id is) gone)
      one false is there true gone none rest = rest none there

  pub all_wait : (es : List (Entry V)) → length (not_out (λ _. false) es) ≡ length es
  all_wait [] = refl
  all_wait (e ∷ es) = let rest = all_wait es in ap suc rest
