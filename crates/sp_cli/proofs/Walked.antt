-- The walk of `clap` over words in pairs.
use Rattle.std.proofs.Common.{◌≡◌, ◌≢◌, ◌∙◌, ℕ, Bool, true, false, not, ◌&&◌, ◌||◌, ◌==◌, List, [], ◌∷◌, ◌++◌, map, Option, Some, None, if◌then◌else◌, append-nil, append_assoc, refl, sym, ap, ap₂, subst, arith, slice_index, nat_lt, true≢false}
use Rattle.std.specs.Prelude.{codes, fold}
use Rattle.std.specs.List.{All}
use Rattle.std.specs.Option.{option_map_or}
use Rattle.std.specs.Str.{bytes_eq}
use Rattle.std.proofs.lemmas.Slice.Eq.{bytes_eq-Decides}
use Rattle.std.proofs.lemmas.List.Folds.{list_any-append}
use Rattle.std.proofs.lemmas.List.Elements.{All-head, All-tail}
use Rattle.clap.specs.declared.error.kind.ErrorKind.TheVariants.{ArgumentConflict}
use Rattle.clap.proofs.OnLiterals.{clap_on_literals}
use Rattle.clap.specs.Lexer.{long_of, short_of}
use Rattle.clap.specs.Walk.{Held, Row, Rule, Step, Text, Walk, idle, option, next, trailing, after_step, arg_by_id, has_row, long_or_other, at_row, more_values, option_word, pushed, reading_by, settled_rows, short_or_plain, used, used_by_id, walked, with_values, without, word_met}
use Rattle.clap.specs.Simple.{Shape, filled}
use Rattle.clap.specs.Kinds.{or_else}
use Rattle.clap.specs.Faults.{bundle_fault, flag_word_fault, settle_fault, step_fault, turn_fault, use_fault, walk_fault, word_fault}
use Rattle.clap.specs.declared.builder.value_parser.Reading.{Reading}
use Rattle.clap.specs.declared.parser.matches.ValueSource.{ValueSource}
use Rattle.clap.specs.declared.parser.matches.ValueSource.TheVariants.{CommandLine}
use Rattle.sp_cli.specs.Options as options
use Rattle.sp_cli.specs.Paired.{ArePairs, nothing, more}

-- the rule of an option, with what `clap` fills in
abbrev pub rule : Option ℕ → Text → Rule
rule letter id = filled (record (options.option id) { short = letter })

-- what is found for an option
abbrev pub row : Text → Text → Row
row id value = record { id = id; values = value ∷ []; count = None; source = Some CommandLine; reading = reading_by (rule None id) }

abbrev pub rows : List (Text × Text) → List Row
rows = map (λ one. row one.0 one.1)

-- the rule of a flag, with what `clap` fills in, and what is found for it
abbrev pub flag_rule : Text → Rule
flag_rule id = filled (options.flag id)

abbrev pub flag_row : ValueSource → Text → Text → Row
flag_row source id value = record { id = id; values = value ∷ []; count = None; source = Some source; reading = reading_by (flag_rule id) }

abbrev pub held_at : List Row → Option (Text × List Text) → Held
held_at found pending = record { rows = found; pending = pending; skip = 0 }

-- the walk between two pairs, and between a name and its value
abbrev pub between : List Row → Option (Text × List Text) → Walk
between found pending = record { held = held_at found pending; waiting = idle; position = 1; is_trailing = false; stopped = None }

abbrev pub waits : List Row → Text → Walk
waits found id = record { held = held_at found (Some (id, [])); waiting = option id; position = 1; is_trailing = false; stopped = None }

same : (text : Text) → bytes_eq text text ≡ true
same text = (bytes_eq-Decides text text).1 refl

pub differ : (a b : Text) → a ≢ b → bytes_eq a b ≡ false
differ a b apart = go (bytes_eq a b) refl
  where
    go : (t : Bool) → bytes_eq a b ≡ t → t ≡ false
    go true e = absurd (apart ((bytes_eq-Decides a b).0 e))
    go false e = refl

not_hyphen : (x : ℕ) → x ≢ 45 → (x == 45) ≡ false
not_hyphen x apart = search arith

no_dashes : (value : Text) → slice_index value 0 ≢ 45 → bytes_eq value (45 ∷ 45 ∷ []) ≡ false
no_dashes [] plain = refl
no_dashes (x ∷ xs) plain = differ (x ∷ xs) (45 ∷ 45 ∷ []) (λ e. plain (ap (λ t. slice_index t 0) e))

no_long : (value : Text) → slice_index value 0 ≢ 45 → long_of value ≡ None
no_long [] plain = refl
no_long (x ∷ xs) plain = rw (not_hyphen x plain) refl

no_short : (value : Text) → slice_index value 0 ≢ 45 → short_of value ≡ None
no_short [] plain = refl
no_short (x ∷ xs) plain = rw (not_hyphen x plain) refl

-- ---- a value

module _ (s : Shape) (letter : Option ℕ) (id value : Text) (ours : arg_by_id s.rules id ≡ Some (rule letter id)) (found : List Row) where
  abbrev h : Held
  h = held_at found (Some (id, []))

  abbrev taken : Held × Step
  taken = (held_at found (Some (id, value ∷ [])), next idle)

  last : (b : Bool) → b ≡ true → (pushed id value h, next (if nat_lt (if b then 1 else 0) 1 then option id else idle)) ≡ taken
  last true e = refl
  last false e = absurd (true≢false (sym e))

  value_met : slice_index value 0 ≢ 45 → word_met s.rules [] false (option id) 1 value h ≡ taken
  value_met plain =
      ap (λ b. if b then (h, trailing 1) else long_or_other s.rules (option id) value (long_of value) h) (no_dashes value plain)
      ∙ ap (λ l. long_or_other s.rules (option id) value l h) (no_long value plain)
      ∙ ap (λ l. short_or_plain s.rules (option id) value l h) (no_short value plain)
      ∙ ap (λ (a : Option Rule). ((option_word a id value h).0, next (option_word a id value h).1)) ours
      ∙ last (bytes_eq id id) (same id)

  value_step : slice_index value 0 ≢ 45 → walked s.rules [] (waits found id) value ≡ between found (Some (id, value ∷ []))
  unfolding clap_on_literals
  value_step plain = ap (λ (m : Held × Step). after_step s.rules value (waits found id) m.0 m.1) (value_met plain)

  word_passes : slice_index value 0 ≢ 45 → word_fault s [] false (option id) value h ≡ []
  word_passes plain =
      ap (λ b. if b then [] else flag_word_fault s.rules s.args_override_self (long_of value) value h) (no_dashes value plain)
      ∙ ap (λ l. flag_word_fault s.rules s.args_override_self l value h) (no_long value plain)
      ∙ ap (λ l. option_map_or (λ flags. bundle_fault s.rules s.args_override_self flags h) l []) (no_short value plain)

  value_passes : slice_index value 0 ≢ 45 → turn_fault s [] (waits found id) value ≡ []
  value_passes plain = ap₂ or_else (word_passes plain) (ap (λ (m : Held × Step). step_fault s 1 m.0 m.1) (value_met plain))

-- ---- what is pending

-- What is pending comes to these rows when the next option is met, without a fault.
pub record Settles (s : Shape) (found : List Row) (pending : Option (Text × List Text)) (after : List Row) : Type 0 where
  pub rows_are : settled_rows s.rules pending found ≡ after
  pub passes : settle_fault s.rules s.args_override_self (held_at found pending) ≡ []

neither : (a b : Bool) → a || b ≡ false → (a ≡ false) × (b ≡ false)
neither true b e = absurd (true≢false e)
neither false b e = (refl, e)

pub at_row_absent : (id : Text) (change : Row → List Row) (missing found : List Row) → has_row id found ≡ false
    → at_row id change missing found ≡ found ++ missing
at_row_absent id change missing [] e = refl
at_row_absent id change missing (r ∷ rs) e =
    let both = neither (bytes_eq r.id id) (has_row id rs) e in
    ap (λ b. if b then change r ++ rs else r ∷ at_row id change missing rs) both.0 ∙ ap (λ more. r ∷ more) (at_row_absent id change missing rs both.1)

-- an option or a flag that is used first adds its row
appended : (id : Text) (how : Reading) (values : List Text) (found : List Row) → has_row id found ≡ false
    → with_values id how CommandLine values (without id found)
    ≡ found ++ (record { id = id; values = values; count = None; source = Some CommandLine; reading = how }) ∷ []
appended id how values found absent =
    ap (λ (rs : List Row). with_values id how CommandLine values rs) (at_row_absent id (λ r. []) [] found absent ∙ append-nil found)
    ∙ at_row_absent id (more_values CommandLine values)
    ((record { id = id; values = values; count = None; source = Some CommandLine; reading = how }) ∷ []) found absent

pub settles_value : (s : Shape) (letter : Option ℕ) (id value : Text) → arg_by_id s.rules id ≡ Some (rule letter id) → (found : List Row)
    → has_row id found ≡ false → Settles s found (Some (id, value ∷ [])) (found ++ row id value ∷ [])
settles_value s letter id value ours found absent = record {
  rows_are = ap (λ (a : Option Rule). used_by_id a (value ∷ []) found) ours ∙ appended id (reading_by (rule letter id)) (value ∷ []) found absent;
  passes = ap (λ (a : Option Rule). option_map_or (λ (r : Rule). use_fault s.args_override_self r (value ∷ []) found) a []) ours
      ∙ ap (λ b. or_else (if b && not s.args_override_self then ArgumentConflict ∷ [] else []) []) absent;
}

-- ---- pairs

-- The word is the name of an option of the command.
pub record IsOption (s : Shape) (word id : Text) : Type 0 where
  pub letter : Option ℕ
  pub ours : arg_by_id s.rules id ≡ Some (rule letter id)
  pub step : (found : List Row) (pending : Option (Text × List Text))
      → walked s.rules [] (between found pending) word ≡ waits (settled_rows s.rules pending found) id
  pub passes : (found : List Row) (pending : Option (Text × List Text))
      → turn_fault s [] (between found pending) word ≡ settle_fault s.rules s.args_override_self (held_at found pending)

-- The walk over the words ends between two pairs, without a fault, where what is pending comes to these rows.
pub record Ends (s : Shape) (words : List Text) (found : List Row) (pending : Option (Text × List Text)) (after : List Row) : Type 0 where
  pub end : List Row
  pub left : Option (Text × List Text)
  pub walk_is : fold (walked s.rules []) (between found pending) words ≡ between end left
  pub settles : Settles s end left after
  pub passes : walk_fault s [] (between found pending) words ≡ []

-- The word is a flag of the command.
pub record IsFlag (s : Shape) (word id : Text) : Type 0 where
  pub step : (found : List Row) (pending : Option (Text × List Text))
      → walked s.rules [] (between found pending) word ≡ between (used (flag_rule id) [] (settled_rows s.rules pending found)) None
  pub passes : (found : List Row) (pending : Option (Text × List Text))
      → turn_fault s [] (between found pending) word
      ≡ or_else (settle_fault s.rules s.args_override_self (held_at found pending))
      (use_fault s.args_override_self (flag_rule id) [] (settled_rows s.rules pending found))

-- none of the options was found yet
abbrev pub Absent : List Row → List (Text × Text) → Type 0
Absent found [] = Unit {0}
Absent found (one ∷ said) = (has_row one.0 found ≡ false) × Absent found said

pub absent_at_first : (said : List (Text × Text)) → Absent [] said
absent_at_first [] = tt
absent_at_first (one ∷ said) = (refl, absent_at_first said)

pub still_absent : (new : Row) (found : List Row) (said : List (Text × Text)) → Absent found said → All (λ (other : Text × Text). new.id ≢ other.0) said
    → Absent (found ++ new ∷ []) said
still_absent new found [] absent once = tt
still_absent new found (one ∷ said) absent once = (
  list_any-append (λ (r : Row). bytes_eq r.id one.0) found (new ∷ [])
      ∙ ap₂ (λ a b. a || (b || false)) absent.0 (differ new.id one.0 (All-head (λ (other : Text × Text). new.id ≢ other.0) one said once)),
  still_absent new found said absent.1 (All-tail (λ (other : Text × Text). new.id ≢ other.0) one said once),
)

module _ (s : Shape) where
  -- a pair more before words whose walk ends without a fault
  pub pair_ends : (word id value : Text) (words : List Text) (found : List Row) (pending : Option (Text × List Text)) (after total : List Row)
      → IsOption s word id → slice_index value 0 ≢ 45 → Settles s found pending after → Ends s words after (Some (id, value ∷ [])) total
      → Ends s (word ∷ value ∷ words) found pending total
  unfolding clap_on_literals
  pair_ends word id value words found pending after total o plain h rest =
      let one : walked s.rules [] (between found pending) word ≡ waits after id = o.step found pending ∙ ap (λ r. waits r id) h.rows_are in
      let two : walked s.rules [] (waits after id) value ≡ between after (Some (id, value ∷ [])) = value_step s o.letter id value o.ours after plain in
      record {
        end = rest.end;
        left = rest.left;
        walk_is = ap (λ w. fold (walked s.rules []) (walked s.rules [] w value) words) one ∙ ap (λ w. fold (walked s.rules []) w words) two ∙ rest.walk_is;
        settles = rest.settles;
        passes = ap₂ or_else (o.passes found pending ∙ h.passes)
            (ap₂ or_else (ap (λ w. turn_fault s [] w value) one ∙ value_passes s o.letter id value o.ours after plain)
            (ap (λ w. walk_fault s [] (walked s.rules [] w value) words) one ∙ ap (λ w. walk_fault s [] w words) two ∙ rest.passes));
      }

  -- a flag more
  pub flag_ends : (word id : Text) (words : List Text) (found : List Row) (pending : Option (Text × List Text)) (after total : List Row)
      → IsFlag s word id → Settles s found pending after → has_row id after ≡ false
      → Ends s words (after ++ flag_row CommandLine id (codes "true") ∷ []) None total → Ends s (word ∷ words) found pending total
  unfolding clap_on_literals
  flag_ends word id words found pending after total f h absent rest =
      let more : List Row = after ++ flag_row CommandLine id (codes "true") ∷ [] in
      let uses : used (flag_rule id) [] (settled_rows s.rules pending found) ≡ more =
      ap (used (flag_rule id) []) h.rows_are ∙ appended id (reading_by (flag_rule id)) (codes "true" ∷ []) after absent in
      let one : walked s.rules [] (between found pending) word ≡ between more None = f.step found pending ∙ ap (λ r. between r None) uses in
      let free : use_fault s.args_override_self (flag_rule id) [] (settled_rows s.rules pending found) ≡ [] =
      ap (use_fault s.args_override_self (flag_rule id) []) h.rows_are
      ∙ ap (λ b. or_else (if b && not s.args_override_self then ArgumentConflict ∷ [] else []) []) absent in
      record {
        end = rest.end;
        left = rest.left;
        walk_is = ap (λ w. fold (walked s.rules []) w words) one ∙ rest.walk_is;
        settles = rest.settles;
        passes = ap₂ or_else (f.passes found pending ∙ ap₂ or_else h.passes free) (ap (λ w. walk_fault s [] w words) one ∙ rest.passes);
      }

  pub none_pending : (found : List Row) → Settles s found None found
  none_pending found = record { rows_are = refl; passes = refl }

module _ (s : Shape) (IsName : Text → Text → Type 0) (known : (word id : Text) → IsName word id → IsOption s word id) where
  pub ends : (words : List Text) (said : List (Text × Text)) → ArePairs IsName words said
      → (found : List Row) (pending : Option (Text × List Text)) (after : List Row) → Settles s found pending after
      → Absent after said → Ends s words found pending (after ++ rows said)
  unfolding clap_on_literals
  ends words said nothing found pending after h absent = record {
    end = found;
    left = pending;
    walk_is = refl;
    settles = subst (λ r. Settles s found pending r) (sym (append-nil after)) h;
    passes = refl;
  }
  ends words said (more word id value rest others name plain once pairs) found pending after h absent =
      let o = known word id name in
      let ih = ends rest others pairs after (Some (id, value ∷ [])) (after ++ row id value ∷ []) (settles_value s o.letter id value o.ours after absent.0)
      (still_absent (row id value) after others absent.1 once) in
      pair_ends s word id value rest found pending after (after ++ row id value ∷ rows others) o plain h
      (subst (λ r. Ends s rest after (Some (id, value ∷ [])) r) (append_assoc after (row id value ∷ []) (rows others)) ih)
