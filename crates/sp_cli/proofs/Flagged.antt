-- The walk of `clap` over words in pairs with a flag among them.
use Rattle.std.proofs.Common.{◌≡◌, ◌≢◌, ◌∙◌, Bool, true, false, ◌||◌, List, [], ◌∷◌, ◌++◌, Option, Some, None, if◌then◌else◌, cond, append_assoc, refl, sym, ap, ap₂, subst}
use Rattle.std.specs.Prelude.{codes, option_and_then, slice_get, find}
use Rattle.std.specs.List.{All}
use Rattle.std.specs.Str.{bytes_eq}
use Rattle.std.proofs.lemmas.Slice.Eq.{bytes_eq-Decides}
use Rattle.std.proofs.lemmas.List.Elements.{All-cons, All-nil}
use Rattle.std.proofs.lemmas.List.Folds.{list_any-append}
use Rattle.clap.specs.Walk.{Row, Text, first_of, has_row}
use Rattle.clap.specs.Simple.{Shape}
use Rattle.clap.specs.declared.parser.matches.ValueSource.{ValueSource}
use Rattle.clap.specs.declared.parser.matches.ValueSource.TheVariants.{CommandLine}
use Rattle.sp_cli.specs.Paired.{ArePairs, nothing, more, HaveFlag, before, behind, value_of}
use Rattle.sp_cli.proofs.Walked.{Absent, Ends, IsFlag, IsOption, Settles, differ, ends, flag_ends, flag_row, none_pending, pair_ends, row, rows, settles_value, still_absent}

-- ---- what rows say

-- what is found for a name where one row more stands before the others
abbrev or_said : Bool → Text → Option Text → Option Text
or_said b value other = if b then Some value else other

first_more : (r : Row) (value : Text) (rs : List Row) (id : Text) → slice_get r.values 0 ≡ Some value
    → first_of id (r ∷ rs) ≡ or_said (bytes_eq r.id id) value (first_of id rs)
first_more r value rs id says = go (bytes_eq r.id id)
  where
    go : (b : Bool) → option_and_then (λ (x : Row). slice_get x.values 0) (cond b (Some r) (find (λ (x : Row). bytes_eq x.id id) rs))
        ≡ or_said b value (first_of id rs)
    go true = says
    go false = refl

pub first_said : (id : Text) (said : List (Text × Text)) → first_of id (rows said) ≡ value_of id said
first_said id [] = refl
first_said id (one ∷ rest) = first_more (row one.0 one.1) one.1 (rows rest) id refl ∙ ap (or_said (bytes_eq one.0 id) one.1) (first_said id rest)

exchanged : (a b : Bool) (one other : Text) (rest : Option Text) → (a ≡ true → b ≡ true → ⊥)
    → or_said a one (or_said b other rest) ≡ or_said b other (or_said a one rest)
exchanged true true one other rest apart = absurd (apart refl refl)
exchanged true false one other rest apart = refl
exchanged false b one other rest apart = refl

same_as : (a b : Text) → bytes_eq a b ≡ true → a ≡ b
same_as a b e = (bytes_eq-Decides a b).0 e

or_true : (b : Bool) → b || true ≡ true
or_true true = refl
or_true false = refl

-- ---- the walk

-- The walk over the words ends with these rows more, in which the flag is there, and each option says what stands behind its name.
pub record EndsFlagged (s : Shape) (flag : Text) (words : List Text) (said : List (Text × Text)) (found : List Row)
    (pending : Option (Text × List Text)) (after : List Row) : Type 0 where
  pub found_more : List Row
  pub walk : Ends s words found pending (after ++ found_more)
  pub there : has_row flag found_more ≡ true
  pub are : (id : Text) → first_of id found_more ≡ value_of id ((flag, codes "true") ∷ said)

-- ---- names that differ from the flag's

module _ (IsName : Text → Text → Type 0) (flag : Text) (differs : (word id : Text) → IsName word id → flag ≢ id) where
  apart : (words : List Text) (said : List (Text × Text)) → ArePairs IsName words said → All (λ (other : Text × Text). flag ≢ other.0) said
  apart words said nothing = All-nil (λ (other : Text × Text). flag ≢ other.0)
  apart words said (more word id value rest others name plain once pairs) =
      All-cons (λ (other : Text × Text). flag ≢ other.0) (id, value) others (differs word id name) (apart rest others pairs)

  pub without_flag : (words : List Text) (said : List (Text × Text)) → ArePairs IsName words said → has_row flag (rows said) ≡ false
  without_flag words said nothing = refl
  without_flag words said (more word id value rest others name plain once pairs) =
      ap₂ (λ a b. a || b) (differ id flag (λ e. differs word id name (sym e))) (without_flag rest others pairs)

  -- a pair more says the same before what the flag says and behind it
  said_more : (word id value text : Text) → IsName word id → (found : List Row) (said : List (Text × Text))
      → ((other : Text) → first_of other found ≡ value_of other ((flag, text) ∷ said))
      → (other : Text) → first_of other (row id value ∷ found) ≡ value_of other ((flag, text) ∷ (id, value) ∷ said)
  said_more word id value text name found said are other =
      first_more (row id value) value found other refl ∙ ap (or_said (bytes_eq id other) value) (are other)
      ∙ exchanged (bytes_eq id other) (bytes_eq flag other) value text (value_of other said)
      (λ e f. differs word id name (same_as flag other f ∙ sym (same_as id other e)))

  pub said_last : (source : ValueSource) (text : Text) (words : List Text) (said : List (Text × Text)) → ArePairs IsName words said
      → (id : Text) → first_of id (rows said ++ flag_row source flag text ∷ []) ≡ value_of id ((flag, text) ∷ said)
  said_last source text words said nothing = λ id. first_more (flag_row source flag text) text [] id refl
  said_last source text words said (more word id value rest others name plain once pairs) =
      said_more word id value text name (rows others ++ flag_row source flag text ∷ []) others (said_last source text rest others pairs)

module _ (s : Shape) (IsName : Text → Text → Type 0) (known : (word id : Text) → IsName word id → IsOption s word id) (flag : Text)
    (is_flag : IsFlag s (45 ∷ 45 ∷ flag) flag) (differs : (word id : Text) → IsName word id → flag ≢ id) where
  abbrev new : Row
  new = flag_row CommandLine flag (codes "true")

  pub flagged_ends : (words : List Text) (said : List (Text × Text)) → HaveFlag IsName (45 ∷ 45 ∷ flag) words said
      → (found : List Row) (pending : Option (Text × List Text)) (after : List Row) → Settles s found pending after
      → Absent after said → has_row flag after ≡ false → EndsFlagged s flag words said found pending after
  flagged_ends words said (before rest others pairs) found pending after h absent first =
      let walks = ends s IsName known rest others pairs (after ++ new ∷ []) None (after ++ new ∷ []) (none_pending s (after ++ new ∷ []))
      (still_absent new after others absent (apart IsName flag differs rest others pairs)) in
      record {
        found_more = new ∷ rows others;
        walk = flag_ends s (45 ∷ 45 ∷ flag) flag rest found pending after (after ++ new ∷ rows others) is_flag h first
            (subst (λ r. Ends s rest (after ++ new ∷ []) None r) (append_assoc after (new ∷ []) (rows others)) walks);
        there = ap (λ b. b || has_row flag (rows others)) ((bytes_eq-Decides flag flag).1 refl);
        are = λ id. first_more new (codes "true") (rows others) id refl ∙ ap (or_said (bytes_eq flag id) (codes "true")) (first_said id others);
      }
  flagged_ends words said (behind word id value rest others name plain once has) found pending after h absent first =
      let o = known word id name in
      let next : List Row = after ++ row id value ∷ [] in
      let still : has_row flag next ≡ false = list_any-append (λ (r : Row). bytes_eq r.id flag) after (row id value ∷ [])
      ∙ ap₂ (λ a b. a || (b || false)) first (differ id flag (λ e. differs word id name (sym e))) in
      let ih = flagged_ends rest others has after (Some (id, value ∷ [])) next (settles_value s o.letter id value o.ours after absent.0)
      (still_absent (row id value) after others absent.1 once) still in
      record {
        found_more = row id value ∷ ih.found_more;
        walk = pair_ends s word id value rest found pending after (after ++ row id value ∷ ih.found_more) o plain h
            (subst (λ r. Ends s rest after (Some (id, value ∷ [])) r) (append_assoc after (row id value ∷ []) ih.found_more) ih.walk);
        there = ap (λ b. bytes_eq id flag || b) ih.there ∙ or_true (bytes_eq id flag);
        are = said_more IsName flag differs word id value (codes "true") name ih.found_more others ih.are;
      }
