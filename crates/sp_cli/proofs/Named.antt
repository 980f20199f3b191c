-- Options by their names: a command's rules, made of the letters and the names of its options.
use Rattle.std.proofs.Common.{◌≡◌, ◌∙◌, ℕ, Bool, true, false, not, ◌&&◌, ◌||◌, ◌==◌, List, [], ◌∷◌, ◌++◌, Option, Some, None, if◌then◌else◌, cond, map, refl, sym, ap, ap₂, subst}
use Rattle.std.specs.Prelude.{codes}
use Rattle.std.specs.List.{list_any, list_all, before_first, after_first}
use Rattle.std.specs.Str.{bytes_eq}
use Rattle.std.proofs.lemmas.Slice.Eq.{bytes_eq-Decides}
use Rattle.std.proofs.lemmas.List.Elements.{All-contains}
use Rattle.std.proofs.lemmas.List.Sums.{AllPass-from_list_all}
use Rattle.clap.proofs.OnLiterals.{clap_on_literals}
use Rattle.clap.specs.Lexer.{long_of, has_byte}
use Rattle.clap.specs.Walk.{Held, Row, Rule, Step, Text, idle, option, next, after_flag, after_step, arg_by_id, arg_by_long, long_met, long_or_other, settled_rows, trailing, word_met}
use Rattle.clap.specs.Simple.{Shape}
use Rattle.clap.specs.Kinds.{Kinds, or_else}
use Rattle.clap.specs.Faults.{flag_word_fault, long_fault, settle_fault, step_fault, word_fault}
use Rattle.sp_cli.specs.Numbers.{NumberOption, speed_numbers, slack_number}
use Rattle.sp_cli.specs.Paired.{IsSpeedName, number, predictor, IsLateName, slack, late}
use Rattle.sp_cli.proofs.Numbers.{first, second}
use Rattle.sp_cli.proofs.Walked.{IsOption, between, differ, held_at, rule}

-- the letter of an option, if it has one, and its name
abbrev pub Named : Type 0
Named = List (Option ℕ × Text)

abbrev pub rules_of : Named → List Rule
rules_of = map (λ one. rule one.0 one.1)

-- a long option has this name, and a word with a hyphen more is no other option
abbrev is_plain : Text → Bool
is_plain [] = false
is_plain (x ∷ xs) = bytes_eq (before_first (λ b. b == 61) (x ∷ xs)) (x ∷ xs) && not (has_byte 61 (x ∷ xs))

abbrev pub is_named : Named → Text → Bool
is_named named id = list_any (λ (one : Option ℕ × Text). bytes_eq one.1 id) named && is_plain id

pub right_none : (kinds : Kinds) → or_else kinds [] ≡ kinds
right_none [] = refl
right_none (kind ∷ kinds) = refl

-- ---- the word of a long option

module _ (s : Shape) (letter : Option ℕ) (id : Text) (ours : arg_by_id s.rules id ≡ Some (rule letter id)) (by_name : arg_by_long s.rules id ≡ Some (rule letter id))
    (long : long_of (45 ∷ 45 ∷ id) ≡ Some (id, None)) (more : bytes_eq (45 ∷ 45 ∷ id) (45 ∷ 45 ∷ []) ≡ false) where
  abbrev word : Text
  word = 45 ∷ 45 ∷ id

  module _ (found : List Row) (pending : Option (Text × List Text)) where
    abbrev h : Held
    h = held_at found pending

    abbrev after : Held × Step
    after = (held_at (settled_rows s.rules pending found) (Some (id, [])), next (option id))

    word_met_is : word_met s.rules [] false idle 1 word h ≡ after
    word_met_is =
        ap (λ b. if b then (h, trailing 1) else long_or_other s.rules idle word (long_of word) h) more
        ∙ ap (λ l. long_or_other s.rules idle word l h) long
        ∙ ap (λ (a : Option Rule). after_flag s.rules idle word (long_met s.rules a None h).0 (long_met s.rules a None h).1) by_name

    word_passes : word_fault s [] false idle word h ≡ settle_fault s.rules s.args_override_self h
    word_passes =
        ap (λ b. if b then [] else flag_word_fault s.rules s.args_override_self (long_of word) word h) more
        ∙ ap (λ l. flag_word_fault s.rules s.args_override_self l word h) long
        ∙ ap (λ (a : Option Rule). long_fault s.rules s.args_override_self a None h) by_name

  pub long_option : IsOption s word id
  unfolding clap_on_literals
  long_option = record {
    letter = letter;
    ours = ours;
    step = λ found pending. ap (λ (m : Held × Step). after_step s.rules word (between found pending) m.0 m.1) (word_met_is found pending);
    passes = λ found pending.
        ap₂ or_else (word_passes found pending) (ap (λ (m : Held × Step). step_fault s 1 m.0 m.1) (word_met_is found pending))
        ∙ right_none (settle_fault s.rules s.args_override_self (held_at found pending));
  }

-- ---- the rule of a name

-- The rule that is found by the name is an option's of this name; behind the rules of options others may stand.
record Finds (rules : List Rule) (id : Text) : Type 0 where
  pub letter : Option ℕ
  pub ours : arg_by_id rules id ≡ Some (rule letter id)
  pub by_name : arg_by_long rules id ≡ Some (rule letter id)

finds : (named : Named) (behind : List Rule) (id : Text) → list_any (λ (one : Option ℕ × Text). bytes_eq one.1 id) named ≡ true
    → Finds (rules_of named ++ behind) id
finds [] behind id there = absurd (cc)
finds (one ∷ named) behind id there = go (bytes_eq one.1 id) refl (finds named behind id)
  where
    go : (b : Bool) → bytes_eq one.1 id ≡ b → (list_any (λ (other : Option ℕ × Text). bytes_eq other.1 id) named ≡ true → Finds (rules_of named ++ behind) id)
        → Finds (rules_of (one ∷ named) ++ behind) id
    go true e others =
        let same = ap (λ (name : Text). Some (rule one.0 name)) ((bytes_eq-Decides one.1 id).0 e) in
        record {
          letter = one.0;
          ours = ap (λ b. cond b (Some (rule one.0 one.1)) (arg_by_id (rules_of named ++ behind) id)) e ∙ same;
          by_name = ap (λ b. cond (b || false) (Some (rule one.0 one.1)) (arg_by_long (rules_of named ++ behind) id)) e ∙ same;
        }
    go false e others =
        let later = others (ap (λ b. b || list_any (λ (other : Option ℕ × Text). bytes_eq other.1 id) named) (sym e) ∙ there) in
        record {
          letter = later.letter;
          ours = ap (λ b. cond b (Some (rule one.0 one.1)) (arg_by_id (rules_of named ++ behind) id)) e ∙ later.ours;
          by_name = ap (λ b. cond (b || false) (Some (rule one.0 one.1)) (arg_by_long (rules_of named ++ behind) id)) e ∙ later.by_name;
        }

pick : (b : Bool) (text : Text) (other : Option Text) → b ≡ false → (if b then other else None) ≡ None
pick true text other e = absurd (cc)
pick false text other e = refl

not_true : (b : Bool) → not b ≡ true → b ≡ false
not_true true e = absurd (cc)
not_true false e = refl

plain_long : (id : Text) → is_plain id ≡ true → long_of (45 ∷ 45 ∷ id) ≡ Some (id, None)
plain_long [] plain = absurd (cc)
plain_long (x ∷ xs) plain =
    let id : Text = x ∷ xs in
    let whole = (bytes_eq-Decides (before_first (λ b. b == 61) id) id).0 (first (bytes_eq (before_first (λ b. b == 61) id) id) (not (has_byte 61 id)) plain) in
    let alone = not_true (has_byte 61 id) (second (bytes_eq (before_first (λ b. b == 61) id) id) (not (has_byte 61 id)) plain) in
    ap₂ (λ (name : Text) (value : Option Text). Some (name, value)) whole (pick (has_byte 61 id) id (Some (after_first (λ b. b == 61) id)) alone)

plain_more : (id : Text) → is_plain id ≡ true → bytes_eq (45 ∷ 45 ∷ id) (45 ∷ 45 ∷ []) ≡ false
plain_more [] plain = absurd (cc)
plain_more (x ∷ xs) plain = differ (45 ∷ 45 ∷ x ∷ xs) (45 ∷ 45 ∷ []) (λ e. cc)

-- the name of one of a command's options, behind two hyphens, is the word of that option
pub named_option : (s : Shape) (named : Named) (behind : List Rule) (id : Text) → s.rules ≡ rules_of named ++ behind → is_named named id ≡ true
    → IsOption s (45 ∷ 45 ∷ id) id
named_option s named behind id are there =
    let known = list_any (λ (one : Option ℕ × Text). bytes_eq one.1 id) named in
    let plain = second known (is_plain id) there in
    let at = subst (λ (rules : List Rule). Finds rules id) (sym are) (finds named behind id (first known (is_plain id) there)) in
    long_option s at.letter id at.ours at.by_name (plain_long id plain) (plain_more id plain)

-- so is that of each option that says how a run works
pub speed_option : (s : Shape) (named : Named) (behind : List Rule) → s.rules ≡ rules_of named ++ behind
    → list_all (λ (one : NumberOption). is_named named one.name) speed_numbers ≡ true → is_named named (codes "predictor") ≡ true
    → (word id : Text) → IsSpeedName word id → IsOption s word id
speed_option s named behind are all there w id (number one at) =
    named_option s named behind one.name are (All-contains (λ (it : NumberOption). is_named named it.name ≡ true) speed_numbers one
    (AllPass-from_list_all (λ (it : NumberOption). is_named named it.name) speed_numbers all) at)
speed_option s named behind are all there w id predictor = named_option s named behind (codes "predictor") are there

-- and that of each option that says which events come too late, and what becomes of them
pub late_option : (s : Shape) (named : Named) (behind : List Rule) → s.rules ≡ rules_of named ++ behind → is_named named slack_number.name ≡ true
    → is_named named (codes "late") ≡ true → (word id : Text) → IsLateName word id → IsOption s word id
late_option s named behind are has_slack has_late w id slack = named_option s named behind slack_number.name are has_slack
late_option s named behind are has_slack has_late w id late = named_option s named behind (codes "late") are has_late
