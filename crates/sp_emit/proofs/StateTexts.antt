-- The lines of a state, as they grow piece by piece.
use Rattle.std.proofs.Common.{◌≡◌, ℕ, List, [], ◌++◌, length, ◌∙◌, ap, append_assoc}
use Rattle.std.specs.Prelude.{codes}
use Rattle.std.specs.Fmt.{decimal}
use Rattle.sp_base.specs.Commas.{list_text}
use Rattle.sp_group.specs.Seen.{StateSeen, VersionSeen}
use Rattle.sp_emit.specs.StateLines.{id_text, truth_text, groups_text, head_line, version_line}

-- a text that begins with nothing
pub begun : (o a p : List ℕ) → o ≡ [] → a ≡ o ++ p → a ≡ p
begun o a p h ha = ha ∙ ap (λ (l : List ℕ). l ++ p) h

-- pieces that come together, one after another
three : (x p q r : List ℕ) → x ++ (p ++ q ++ r) ≡ x ++ p ++ q ++ r
three x p q r = simp append_assoc

six : (x p q r s t u : List ℕ) → x ++ (p ++ q ++ r ++ s ++ t ++ u) ≡ x ++ p ++ q ++ r ++ s ++ t ++ u
six x p q r s t u = simp append_assoc

-- the line of the state itself
pub head_pushed : (s : StateSeen) (a b c d e f : List ℕ) → a ≡ codes "state events=" ++ decimal s.events ++ codes " ended="
    → b ≡ a ++ truth_text s.ended
    → c ≡ b ++ (codes " windows=" ++ decimal s.windows ++ codes " finished=" ++ decimal s.finished ++ codes " live=" ++ decimal (length s.versions))
    → d ≡ c ++ codes " consumed=" → e ≡ d ++ list_text s.consumed → f ≡ e ++ codes "\n" → f ≡ head_line s
head_pushed s a b c d e f ha hb hc hd he hf =
    let counts = hc ∙ six b (codes " windows=") (decimal s.windows) (codes " finished=") (decimal s.finished) (codes " live=") (decimal (length s.versions)) in
    rw (hf, he, hd, counts, hb, ha)

-- the line of a version
pub version_pushed : (v : VersionSeen) (a b c d e f g h i j k l m : List ℕ) → a ≡ codes "v=" ++ decimal v.id ++ codes " parent=" → b ≡ a ++ id_text v.parent
    → c ≡ b ++ (codes " window=" ++ decimal v.window ++ codes " label=") → d ≡ c ++ list_text v.label
    → e ≡ d ++ (codes " position=" ++ decimal v.position ++ codes " skipped=") → f ≡ e ++ list_text v.skipped → g ≡ f ++ codes " done="
    → h ≡ g ++ truth_text v.done → i ≡ h ++ codes " out=" → j ≡ i ++ id_text v.out → k ≡ j ++ codes " groups=" → l ≡ k ++ groups_text v.groups
    → m ≡ l ++ codes "\n" → m ≡ version_line v
version_pushed v a b c d e f g h i j k l m ha hb hc hd he hf hg hh hi hj hk hl hm =
    let window = hc ∙ three b (codes " window=") (decimal v.window) (codes " label=") in
    let position = he ∙ three d (codes " position=") (decimal v.position) (codes " skipped=") in
    rw (hm, hl, hk, hj, hi, hh, hg, hf, position, hd, window, hb, ha)
