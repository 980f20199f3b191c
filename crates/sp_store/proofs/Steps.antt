-- What each call does to a store, over its places.
use Rattle.std.proofs.Common.{◌≡◌, ◌≢◌, ℕ, ◌+◌, ◌<◌, List, ◌∷◌, length, get_or, remove, Option, Some, None, refl, sym, ap, subst, ◌∙◌, arith}
use Rattle.std.proofs.lemmas.Bool.{false≢true}
use Rattle.std.specs.Prelude.{IsSome, Result, Ok, Err, is_ok, OnOk, true}
use Rattle.sp_store.specs.declared.place.Place.{Place}
use Rattle.sp_store.specs.Stored.{Stored, found, left, written, without, moved, renewed, renewed_id, answered}
use Rattle.sp_store.specs.Places.{Lacks, HasId, IsFree, listed, paired, IsSound}
use Rattle.sp_store.proofs.Listed.{falls_left, length_left, none_found, none_left, key_there, found_there, free_vacant, free_gone, keyed_gone, keyed_same, listed_same, left_gone, written_there}

-- what a clause says of an `Ok`, where it is one
pub at_ok : {T E : Type 0} (r : Result T E) (P : Type 0) → is_ok r ≡ true → OnOk r P → P
at_ok (Ok x) P h p = p
at_ok (Err e) P h p = absurd (false≢true h)

module _ {V : Type 0} (at : ℕ → Option V) (next bound : ℕ) (ps : List Place) (s : IsSound at next bound ps) where
  abbrev pub stored : Stored V
  stored = record { entries = listed at ps; next = next; bound = bound }

  pub put_sound : (now : ℕ → Option V) (key : ℕ) (value : V) → length ps < bound → at key ≡ None → now key ≡ Some value → ((other : ℕ) → other ≢ key → now other ≡ at other)
      → IsSound now (next + 1) bound (record { id = next; key = key } ∷ ps) × (listed now (record { id = next; key = key } ∷ ps) ≡ (next, value) ∷ listed at ps)
  put_sound now key value room was is same =
      let free = free_vacant at key ps s.keyed was in (
        record {
          falls = (omega arith, s.falls);
          keyed = (subst IsSome (sym is) refl, free, keyed_same at now key same ps free s.keyed);
          most = omega arith;
          few = s.few;
        },
        ap (λ o. paired next o (listed now ps)) is ∙ ap (λ es. (next, value) ∷ es) (listed_same at now key same ps free),
      )

  module _ (id i : ℕ) (h : HasId ps id i) (e : Place) (read : e ≡ get_or ps i e) where
    here : e.id ≡ id
    here = ap (λ (z : Place). z.id) read ∙ h.1 e

    pub found_at : found (listed at ps) id ≡ at e.key
    found_at = ap (found (listed at ps)) (sym (h.1 e)) ∙ found_there at next ps i e s.falls s.keyed h.0 ∙ ap (λ (z : Place). at z.key) (sym read)

    pub there : IsSome (at e.key)
    there = subst (λ (z : Place). IsSome (at z.key)) (sym read) (key_there at ps i e s.keyed h.0)

    free : IsFree e.key (remove ps i)
    free = subst (λ (z : Place). IsFree z.key (remove ps i)) (sym read) (free_gone at ps i e s.keyed h.0)

    gone : listed at (remove ps i) ≡ left (listed at ps) id
    gone = left_gone at next ps i e s.falls s.keyed h.0 ∙ ap (left (listed at ps)) (h.1 e)

    pub taken : (now : ℕ → Option V) → ((other : ℕ) → other ≢ e.key → now other ≡ at other)
        → IsSound now next bound (remove ps i) × (listed now (remove ps i) ≡ left (listed at ps) id)
    taken now same = (
      record {
        falls = falls_left next ps i s.falls h.0;
        keyed = keyed_same at now e.key same (remove ps i) free (keyed_gone at ps i s.keyed h.0);
        most = let a = length_left ps i h.0 in let b = s.most in omega arith;
        few = s.few;
      },
      listed_same at now e.key same (remove ps i) free ∙ gone,
    )

    pub renewed_sound : IsSound at (next + 1) bound (record { id = next; key = e.key } ∷ remove ps i)
    renewed_sound = record {
      falls = (omega arith, falls_left next ps i s.falls h.0);
      keyed = (there, free, keyed_gone at ps i s.keyed h.0);
      most = let a = length_left ps i h.0 in let b = s.most in omega arith;
      few = s.few;
    }

    moved_there : (o : Option V) → IsSome o → (es rest : List (ℕ × V)) → rest ≡ left es id
        → (let was : Stored V = record { entries = es; next = next; bound = bound } in let now : Stored V = record { entries = paired next o rest; next = next + 1; bound = bound } in now ≡ moved was id o)
    moved_there None p es rest eq = absurd (false≢true p)
    moved_there (Some v) p es rest eq = rw eq refl

    answered_there : (o : Option V) → IsSome o → Some next ≡ answered next o
    answered_there None p = absurd (false≢true p)
    answered_there (Some v) p = refl

    pub renewed_at : (let now : Stored V = record { entries = listed at (record { id = next; key = e.key } ∷ remove ps i); next = next + 1; bound = bound } in now ≡ renewed stored id)
    renewed_at = moved_there (at e.key) there (listed at ps) (listed at (remove ps i)) gone ∙ ap (moved stored id) (sym found_at)

    pub renewed_answer : Some next ≡ renewed_id stored id
    renewed_answer = answered_there (at e.key) there ∙ ap (answered next) (sym found_at)

    pub written_at : (now : ℕ → Option V) (w : V) → now e.key ≡ Some w → ((other : ℕ) → other ≢ e.key → now other ≡ at other)
        → (listed now ps ≡ written (listed at ps) id w) × IsSound now next bound ps
    written_at now w is same =
        let k : e.key ≡ (get_or ps i e).key = ap (λ (z : Place). z.key) read in
        let r = written_there at now w next ps i e s.falls s.keyed h.0 (subst (λ n. now n ≡ Some w) k is) (λ other apart. same other (λ z. apart (z ∙ k))) in (
          r.0 ∙ ap (λ n. written (listed at ps) n w) (h.1 e),
          record { falls = s.falls; keyed = r.1; most = s.most; few = s.few },
        )

  pub lacks_found : (id : ℕ) → Lacks ps id → found (listed at ps) id ≡ None
  lacks_found id h = none_found at ps id h

  pub lacks_left : (id : ℕ) → Lacks ps id → stored ≡ without stored id
  lacks_left id h = ap (λ (z : List (ℕ × V)). let r : Stored V = record { entries = z; next = next; bound = bound } in r) (sym (none_left at ps id h))

  pub lacks_renewed : (id : ℕ) → Lacks ps id → stored ≡ renewed stored id
  lacks_renewed id h = ap (moved stored id) (sym (none_found at ps id h))

  pub lacks_answer : (id : ℕ) → Lacks ps id → None ≡ renewed_id stored id
  lacks_answer id h = ap (answered next) (sym (none_found at ps id h))
