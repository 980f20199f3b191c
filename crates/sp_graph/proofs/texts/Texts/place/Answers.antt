use Rattle.std.proofs.Common.{ℕ, List, Vec, Global, sym, ◌∙◌, ap, subst, map}
use Rattle.sp_plan.specs.Texts.{symbol_of, with_text}
use Rattle.sp_graph.specs.Tables.{IsKnown}
use Rattle.sp_graph.proofs.Known.{place_in_texts, text_put_in, text_found, seen_again}
use Rattle.sp_graph.proofs.texts.Texts.place.Goals as goal

-- the bytes of a text in the set
abbrev bytes_of : Vec ℕ Global → List ℕ
bytes_of text = text.items

found : (c : goal.In-Some) → IsKnown c.args.self.now c.args.text.now c.in-Some.place
found c =
    let text = c.args.text.now in
    subst (λ (texts : List (List ℕ)). IsKnown texts text c.in-Some.place) c.self.view_is
    (text_found bytes_of text c.self.inside.set.keys c.in-Some.place c.in-Some.ensures.index (sym c.in-Some.ensures.found))

pub returns-in-Some-clause-place : goal.returns-in-Some-clause-place
returns-in-Some-clause-place c = (found c).number_is

pub returns-in-Some-clause-texts : goal.returns-in-Some-clause-texts
returns-in-Some-clause-texts c = seen_again c.args.self.now c.args.text.now c.in-Some.place (found c)

pub returns-clause-place : goal.returns-clause-place
returns-clause-place c =
    c.in_ok-place.ensures.index ∙ place_in_texts bytes_of _ c.self.inside.set.keys ∙ (λ i. symbol_of (c.self.view_is i) (c.in_ok-from_slice.ensures.items i))

pub returns-clause-texts : goal.returns-clause-texts
returns-clause-texts c =
    ap (λ (keys : List (Vec ℕ Global)). map bytes_of keys) c.in_ok-place.ensures.keys ∙ text_put_in bytes_of c.self.inside.set.keys c.in_ok-from_slice.field-0
    ∙ (λ i. with_text (c.self.view_is i) (c.in_ok-from_slice.ensures.items i))
