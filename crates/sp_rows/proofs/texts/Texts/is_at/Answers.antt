use Rattle.std.proofs.Common.{◌≡◌, ℕ, Bool, true, List, Vec, Global, refl, sym, ◌∙◌, ap, subst}
use Rattle.std.specs.Str.{bytes_eq}
use Rattle.std.proofs.lemmas.Slice.Eq.{bytes_eq-Decides}
use Rattle.sp_plan.specs.Texts.{symbol_of, with_text}
use Rattle.sp_rows.proofs.Numbered.{stands_there, there_known, there_number}
use Rattle.sp_rows.proofs.texts.Texts.is_at.Goals as goal

-- the bytes of a text in the set
abbrev bytes_of : Vec ℕ Global → List ℕ
bytes_of text = text.items

-- the text that was looked at is the one that is looked for
equals : (text bytes own : List ℕ) (r : Bool) → own ≡ bytes → r ≡ bytes_eq own text → r ≡ true → bytes_eq text bytes ≡ true
equals text bytes own r same is equal = (bytes_eq-Decides text bytes).1 (sym ((bytes_eq-Decides own text).0 (sym is ∙ equal)) ∙ same)

pub returns-in-Some-clause-number : goal.returns-in-Some-clause-number
returns-in-Some-clause-number c equal =
    let text = c.args.text.now in
    let keys = c.self.inside.set.keys in
    let known = c.in-Some.known.now in
    let look = c.in-Some.ensures.lookup in
    there_number bytes_of _ (λ x y. refl) text keys c.args.number known c.as_slice.ensures.unique
    (stands_there keys c.as_slice.result.now c.args.number known c.as_slice.ensures.keys look.3.0 look.1)
    (equals text (bytes_of known) c.as_slice-in-Some.result.now c.eq.result c.as_slice-in-Some.ensures.value c.eq.ensures equal)
    ∙ ap (λ (texts : List (List ℕ)). symbol_of texts text) c.self.view_is

pub returns-in-Some-clause-known : goal.returns-in-Some-clause-known
returns-in-Some-clause-known c equal =
    let text = c.args.text.now in
    let keys = c.self.inside.set.keys in
    let known = c.in-Some.known.now in
    let look = c.in-Some.ensures.lookup in
    subst (λ (texts : List (List ℕ)). texts ≡ with_text texts text) c.self.view_is
    (there_known bytes_of text keys c.args.number known
    (stands_there keys c.as_slice.result.now c.args.number known c.as_slice.ensures.keys look.3.0 look.1)
    (equals text (bytes_of known) c.as_slice-in-Some.result.now c.eq.result c.as_slice-in-Some.ensures.value c.eq.ensures equal))
