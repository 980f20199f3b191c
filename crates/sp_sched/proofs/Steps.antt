-- Steps as texts, behind their first word.
use Rattle.std.proofs.Common.{◌≡◌, ◌≢◌, ℕ, ◌<◌, ◌≤◌, ◌^◌, true, false, List, [], ◌∷◌, ◌++◌, get_or, Bool, ◌&&◌, ◌==◌, Option, Some, None, refl, sym, ◌∙◌, ap, subst, arith, append_assoc}
use Rattle.std.specs.Prelude.{codes}
use Rattle.std.specs.List.{All}
use Rattle.std.proofs.lemmas.List.{append_cancel_left}
use Rattle.std.specs.Fmt.{decimal}
use Rattle.sp_base.specs.Commas.{list_text}
use Rattle.sp_base.specs.Limits.{batch_limit}
use Rattle.sp_sched.specs.declared.step.TraceStep.{TraceStep}
use Rattle.sp_sched.specs.declared.step.TraceStep.TheVariants as t
use Rattle.sp_sched.specs.Schedules.{IsNumber, AreRuns, step_text}
use Rattle.sp_sched.specs.Reading.{Answers, AreRunsText, IsCut, IsNumberText, IsStepText, parts}
use Rattle.sp_sched.proofs.Parts.{is_mark, parts_some, not_alone, whole, one_cut}
use Rattle.sp_sched.proofs.Numbers.{decimal_free}

-- a number's text
named : (text : List ℕ) (n : ℕ) → IsNumber n → decimal n ≡ text → IsNumberText 9999999999999999999 text n
named text n h e = record { some = h.0; within = let w : n < 10 ^ 19 = h.1 in omega arith; is = e }

-- a number has no blank
unbroken : (n : ℕ) → IsNumber n → All (λ b. is_mark 32 b ≡ false) (decimal n)
unbroken n h = decimal_free 32 n (omega arith) (let w : n < 10 ^ 19 = h.1 in omega arith)

-- whether a text begins with these two bytes
abbrev begins : ℕ → ℕ → List ℕ → Bool
begins a b text = get_or text 0 0 == a && get_or text 1 0 == b

differ : false ≡ true → ⊥
differ e = cc

-- ---- leases

-- The text is what stands behind `lease `.
record Lent (text : List ℕ) : Type 0 where
  version : ℕ
  count : ℕ
  named : IsNumber version
  some : 1 ≤ count
  within : count ≤ batch_limit
  is : text ≡ decimal version ++ 32 ∷ decimal count

lent : (text : List ℕ) (x : TraceStep) → IsStepText (codes "lease " ++ text) x → Lent text
lent text (t.Lease version count) a = record {
  version = version;
  count = count;
  named = a.stands.0;
  some = a.stands.1;
  within = a.stands.2;
  is = let e : (decimal version ++ 32 ∷ []) ++ decimal count ≡ text = append_cancel_left (codes "lease ") ((decimal version ++ 32 ∷ []) ++ decimal count) text a.is in sym e ∙ append_assoc (decimal version) (32 ∷ []) (decimal count);
}
lent text (t.Spawn None label) a = absurd (differ (ap (begins 108 101) a.is))
lent text (t.Spawn (Some parent) label) a = absurd (differ (ap (begins 108 101) a.is))
lent text x a = absurd (differ (ap (begins 108 101) a.is))

module _ (text : List ℕ) where
  pub no_lease : parts 32 text ≡ text ∷ [] → (x : TraceStep) → IsStepText (codes "lease " ++ text) x → ⊥
  no_lease alone x a = let l = lent text x a in not_alone 32 text (decimal l.version) (decimal l.count) alone (unbroken l.version l.named) l.is

  module _ (front rest : List ℕ) (c : IsCut 32 text front rest) where
    pub no_version : ((n : ℕ) → IsNumberText 9999999999999999999 front n → ⊥) → (x : TraceStep) → IsStepText (codes "lease " ++ text) x → ⊥
    no_version none x a =
        let l = lent text x a in
        let p = one_cut 32 text front rest c (decimal l.version) (decimal l.count) (unbroken l.version l.named) l.is in
        none l.version (named front l.version l.named (sym p.0))

    pub no_count : ((n : ℕ) → IsNumberText batch_limit rest n → ⊥) → (x : TraceStep) → IsStepText (codes "lease " ++ text) x → ⊥
    no_count none x a =
        let l = lent text x a in
        let p = one_cut 32 text front rest c (decimal l.version) (decimal l.count) (unbroken l.version l.named) l.is in
        none l.count (record { some = l.some; within = l.within; is = sym p.1 })

    pub lease_there : (version count : ℕ) → IsNumberText 9999999999999999999 front version → IsNumberText batch_limit rest count → IsStepText (codes "lease " ++ text) (t.Lease version count)
    lease_there version count a b = record {
      stands = ((a.some, let w : version ≤ 9999999999999999999 = a.within in omega arith), b.some, b.within);
      is = ap (λ (l : List ℕ). codes "lease " ++ l) (append_assoc (decimal version) (32 ∷ []) (decimal count) ∙ (λ i. a.is i ++ 32 ∷ b.is i) ∙ sym (whole 32 text front rest c));
    }

-- ---- spawns

-- The text is what stands behind `spawn ` where a parent is named.
record Child (text : List ℕ) : Type 0 where
  parent : ℕ
  label : List ℕ
  named : IsNumber parent
  are : AreRuns label
  is : text ≡ decimal parent ++ 32 ∷ list_text label

spawned : (text : List ℕ) (x : TraceStep) → text ≢ codes "root" → IsStepText (codes "spawn " ++ text) x → Child text
spawned text (t.Spawn None label) root a = absurd (root (append_cancel_left (codes "spawn ") text (codes "root") (sym a.is)))
spawned text (t.Spawn (Some parent) label) root a = record {
  parent = parent;
  label = label;
  named = a.stands.0;
  are = a.stands.1;
  is = let e : (decimal parent ++ 32 ∷ []) ++ list_text label ≡ text = append_cancel_left (codes "spawn ") ((decimal parent ++ 32 ∷ []) ++ list_text label) text a.is in sym e ∙ append_assoc (decimal parent) (32 ∷ []) (list_text label);
}
spawned text x root a = absurd (differ (ap (begins 115 112) a.is))

module _ (text : List ℕ) (root : text ≢ codes "root") where
  pub no_spawn : parts 32 text ≡ text ∷ [] → (x : TraceStep) → IsStepText (codes "spawn " ++ text) x → ⊥
  no_spawn alone x a = let l = spawned text x root a in not_alone 32 text (decimal l.parent) (list_text l.label) alone (unbroken l.parent l.named) l.is

  module _ (front rest : List ℕ) (c : IsCut 32 text front rest) where
    pub no_parent : ((n : ℕ) → IsNumberText 9999999999999999999 front n → ⊥) → (x : TraceStep) → IsStepText (codes "spawn " ++ text) x → ⊥
    no_parent none x a =
        let l = spawned text x root a in
        let p = one_cut 32 text front rest c (decimal l.parent) (list_text l.label) (unbroken l.parent l.named) l.is in
        none l.parent (named front l.parent l.named (sym p.0))

    pub no_label : ((runs : List ℕ) → AreRunsText rest runs → ⊥) → (x : TraceStep) → IsStepText (codes "spawn " ++ text) x → ⊥
    no_label none x a =
        let l = spawned text x root a in
        let p = one_cut 32 text front rest c (decimal l.parent) (list_text l.label) (unbroken l.parent l.named) l.is in
        none l.label (record { are = l.are; is = sym p.1 })

pub spawn_there : (text front rest : List ℕ) → IsCut 32 text front rest → (parent : ℕ) (label : List ℕ) → IsNumberText 9999999999999999999 front parent → AreRunsText rest label
    → IsStepText (codes "spawn " ++ text) (t.Spawn (Some parent) label)
spawn_there text front rest c parent label a b = record {
  stands = ((a.some, let w : parent ≤ 9999999999999999999 = a.within in omega arith), b.are);
  is = ap (λ (l : List ℕ). codes "spawn " ++ l) (append_assoc (decimal parent) (32 ∷ []) (list_text label) ∙ (λ i. a.is i ++ 32 ∷ b.is i) ∙ sym (whole 32 text front rest c));
}

-- ---- lines of more than one word

module _ (line word rest : List ℕ) (c : IsCut 32 line word rest) where
  -- the rest of a line behind its first word
  behind : (name : List ℕ) → word ≡ name → line ≡ name ++ 32 ∷ rest
  behind name e = whole 32 line word rest c ∙ ap (λ (l : List ℕ). l ++ 32 ∷ rest) e

  pub is_line : (name : List ℕ) → word ≡ name → (o : Option TraceStep) → Answers (IsStepText (name ++ 32 ∷ rest)) o → Answers (IsStepText line) o
  is_line name e o h = subst (λ (l : List ℕ). Answers (IsStepText l) o) (sym (behind name e)) h

  -- a line of more words is none of one
  alone : (text : List ℕ) → parts 32 text ≡ text ∷ [] → text ≡ line → ⊥
  alone text one is =
      let e : text ∷ [] ≡ word ∷ parts 32 rest = sym one ∙ ap (parts 32) is ∙ c.cut in
      let none : parts 32 rest ≡ [] = cc in
      parts_some 32 rest none

  first_word : (name more text : List ℕ) → parts 32 text ≡ name ∷ parts 32 more → text ≡ line → word ≡ name
  first_word name more text named is = let e : word ∷ parts 32 rest ≡ name ∷ parts 32 more = sym c.cut ∙ ap (parts 32) (sym is) ∙ named in cc

  pub no_line : word ≢ codes "spawn" → word ≢ codes "lease" → word ≢ codes "event" → word ≢ codes "return" → word ≢ codes "roll" → (x : TraceStep) → IsStepText line x → ⊥
  no_line spawn lease event back roll (t.Spawn None label) a = spawn (first_word (codes "spawn") (codes "root") (codes "spawn root") refl a.is)
  no_line spawn lease event back roll (t.Spawn (Some parent) label) a =
      spawn (first_word (codes "spawn") ((decimal parent ++ 32 ∷ []) ++ list_text label) (step_text (t.Spawn (Some parent) label)) refl a.is)
  no_line spawn lease event back roll (t.Lease version count) a = lease (first_word (codes "lease") ((decimal version ++ 32 ∷ []) ++ decimal count) (step_text (t.Lease version count)) refl a.is)
  no_line spawn lease event back roll (t.Event ticket) a = event (first_word (codes "event") (decimal ticket) (step_text (t.Event ticket)) refl a.is)
  no_line spawn lease event back roll (t.Return ticket) a = back (first_word (codes "return") (decimal ticket) (step_text (t.Return ticket)) refl a.is)
  no_line spawn lease event back roll (t.Roll version) a = roll (first_word (codes "roll") (decimal version) (step_text (t.Roll version)) refl a.is)
  no_line spawn lease event back roll t.Feed a = alone (codes "feed") refl a.is
  no_line spawn lease event back roll t.End a = alone (codes "end") refl a.is
  no_line spawn lease event back roll t.Finish a = alone (codes "finish") refl a.is
  no_line spawn lease event back roll t.State a = alone (codes "state") refl a.is

-- ---- lines of one word

-- a line of one word has no blank
unbroken_line : (word first more text : List ℕ) → parts 32 word ≡ word ∷ [] → parts 32 text ≡ first ∷ parts 32 more → text ≡ word → ⊥
unbroken_line word first more text one two is =
    let e : first ∷ parts 32 more ≡ word ∷ [] = sym two ∙ ap (parts 32) is ∙ one in
    let none : parts 32 more ≡ [] = cc in
    parts_some 32 more none

pub no_word : (word : List ℕ) → parts 32 word ≡ word ∷ [] → word ≢ codes "feed" → word ≢ codes "end" → word ≢ codes "finish" → word ≢ codes "state" → (x : TraceStep) → IsStepText word x → ⊥
no_word word one feed end finish state t.Feed a = feed (sym a.is)
no_word word one feed end finish state t.End a = end (sym a.is)
no_word word one feed end finish state t.Finish a = finish (sym a.is)
no_word word one feed end finish state t.State a = state (sym a.is)
no_word word one feed end finish state (t.Spawn None label) a = unbroken_line word (codes "spawn") (codes "root") (codes "spawn root") one refl a.is
no_word word one feed end finish state (t.Spawn (Some parent) label) a =
    unbroken_line word (codes "spawn") ((decimal parent ++ 32 ∷ []) ++ list_text label) (step_text (t.Spawn (Some parent) label)) one refl a.is
no_word word one feed end finish state (t.Lease version count) a = unbroken_line word (codes "lease") ((decimal version ++ 32 ∷ []) ++ decimal count) (step_text (t.Lease version count)) one refl a.is
no_word word one feed end finish state (t.Event ticket) a = unbroken_line word (codes "event") (decimal ticket) (step_text (t.Event ticket)) one refl a.is
no_word word one feed end finish state (t.Return ticket) a = unbroken_line word (codes "return") (decimal ticket) (step_text (t.Return ticket)) one refl a.is
no_word word one feed end finish state (t.Roll version) a = unbroken_line word (codes "roll") (decimal version) (step_text (t.Roll version)) one refl a.is
