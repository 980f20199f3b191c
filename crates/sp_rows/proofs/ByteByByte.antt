-- Rows read byte by byte: what one byte more makes of a reading, and its end.
use Rattle.std.proofs.Common.{◌≡◌, inl, inr, ℕ, Bool, true, false, List, [], ◌∷◌, ◌++◌, Some, None, refl, ◌∙◌, ap, sym}
use Rattle.std.specs.Prelude.{if◌then◌else◌, is_some, Option}
use Rattle.std.proofs.lemmas.Bool.{cases_Bool}
use Rattle.csv.specs.Machine.{Read, next_record, step, is_end, fields_after, field_after, ends_at_end}
use Rattle.csv.specs.declared.parser.Config.{Config}
use Rattle.csv.specs.declared.parser.State.{State}
use Rattle.csv.specs.declared.parser.State.TheVariants as st
use Rattle.csv.specs.declared.parser.Action.{Action}

module _ (cfg : Config) (s t : State) (does : Action) (fields : List (List ℕ)) (field : List ℕ) (c : ℕ) (rest : List ℕ) (moves : (t, does) ≡ step cfg s c) where
  -- what is read from a byte on, by where it leads and what it does
  by_move : (if is_end does then Some (fields_after does fields field, t, rest) else next_record cfg t (fields_after does fields field) (field_after does c field) rest) ≡ next_record cfg s fields field (c ∷ rest)
  unfolding next_record
  by_move =
      ap (λ (p : State × Action). if is_end p.1 then Some (fields_after p.1 fields field, p.0, rest) else next_record cfg p.0 (fields_after p.1 fields field) (field_after p.1 c field) rest) moves

  -- a byte that ends no record
  pub one_more : (more : List (List ℕ)) (now : List ℕ) → is_end does ≡ false → more ≡ fields_after does fields field → now ≡ field_after does c field
      → next_record cfg t more now rest ≡ next_record cfg s fields field (c ∷ rest)
  one_more more now goes_on are is =
      (λ i. next_record cfg t (are i) (is i) rest)
      ∙ sym (ap (λ (b : Bool). if b then Some (fields_after does fields field, t, rest) else next_record cfg t (fields_after does fields field) (field_after does c field) rest) goes_on)
      ∙ by_move

  -- a byte that ends the record
  pub last_one : (more : List (List ℕ)) → is_end does ≡ true → more ≡ fields_after does fields field → next_record cfg s fields field (c ∷ rest) ≡ Some (more, t, rest)
  last_one more ends are =
      sym by_move
      ∙ ap (λ (b : Bool). if b then Some (fields_after does fields field, t, rest) else next_record cfg t (fields_after does fields field) (field_after does c field) rest) ends
      ∙ ap (λ (l : List (List ℕ)). Some (l, t, rest)) (sym are)

-- where the end of the bytes ends no record
pub no_record : (cfg : Config) (s : State) (fields : List (List ℕ)) (field : List ℕ) → ends_at_end s ≡ false → next_record cfg s fields field [] ≡ None
unfolding next_record
no_record cfg s fields field none = rw none refl

-- where it ends one
pub at_end : (cfg : Config) (s : State) (fields : List (List ℕ)) (field : List ℕ) → ends_at_end s ≡ true → next_record cfg s fields field [] ≡ Some (fields ++ field ∷ [], st.StartRecord, [])
unfolding next_record
at_end cfg s fields field ends = rw ends refl

-- whether the end of the bytes ends a record
pub ends_or_not : (cfg : Config) (s : State) (fields : List (List ℕ)) (field : List ℕ) → ends_at_end s ≡ is_some (next_record cfg s fields field [])
ends_or_not cfg s fields field = elim (cases_Bool (ends_at_end s)) [
  | inl ends ↦ ends ∙ sym (ap (λ (o : Option Read). is_some o) (at_end cfg s fields field ends))
  | inr none ↦ none ∙ sym (ap (λ (o : Option Read). is_some o) (no_record cfg s fields field none))
]
