-- Entries as texts.
use Rattle.std.proofs.Common.{◌≡◌, ℕ, ◌+◌, ◌<◌, List, [], ◌∷◌, ◌++◌, length, get_or, take, sym, ◌∙◌, ap, subst}
use Rattle.std.specs.List.{All}
use Rattle.std.proofs.lemmas.List.{flat_map_more, take_more}
use Rattle.std.proofs.lemmas.List.Elements.{All-get_or, All-more}
use Rattle.sp_plan.specs.declared.plan.Plan.{Plan}
use Rattle.sp_plan.specs.declared.found.Match.{Match}
use Rattle.sp_plan.specs.Lines as lines
use Rattle.sp_plan.specs.Lines.{line}
use Rattle.sp_emit.specs.Matches.{Binds, IsLine}
use Rattle.sp_listing.specs.Listing.{IsMatch}

module _ (q : Plan) (ms : List Match) (i : ℕ) (m : Match) (inside : i < length ms) (is : m ≡ get_or ms i m) where
  -- the line of one match more
  pub one_more : (head before after : List ℕ) → before ≡ head ++ lines.text q (take i ms) → after ≡ before ++ line q m → after ≡ head ++ lines.text q (take (i + 1) ms)
  one_more head before after so_far now =
      now ∙ ap (λ (l : List ℕ). l ++ line q m) so_far ∙ flat_map_more (line q) head (take i ms) m
      ∙ ap (λ (l : List Match). head ++ lines.text q l) ((λ j. take i ms ++ is j ∷ []) ∙ sym (take_more ms i m inside))

  -- one match more that the plan can have
  pub matches_more : (All (Binds q) ms → All (IsMatch q) (take i ms)) → (Binds q m → IsLine q m (line q m)) → All (Binds q) ms → All (IsMatch q) (take (i + 1) ms)
  matches_more so_far back binds =
      let own : Binds q m = subst (Binds q) (sym is) (All-get_or (Binds q) ms i m inside binds) in
      let l = back own in
      All-more (IsMatch q) ms i m inside (so_far binds) (subst (IsMatch q) is (l.held, l.binds))
