-- Plans that are alike have the same proofs of a run, and read the same listings.
use Rattle.std.proofs.Common.{◌≡◌, ℕ, Bool, false, List, ◌∷◌, ◌++◌, map, None, sym, ◌∙◌, ap}
use Rattle.std.specs.Prelude.{◌+◌, ◌-◌, ◌==◌, length, drop, filter, slice_get, if◌then◌else◌}
use Rattle.std.specs.List.{flat_map, range_with_len}
use Rattle.std.proofs.lemmas.List.Elements.{All-weaker}
use Rattle.sp_plan.specs.declared.event.Event.{Event}
use Rattle.sp_plan.specs.declared.found.Match.{Match}
use Rattle.sp_plan.specs.declared.plan.Element.{Element}
use Rattle.sp_plan.specs.declared.plan.Plan.{Plan}
use Rattle.sp_plan.specs.Runs.{binds}
use Rattle.sp_plan.specs.Windows.{Window, closed}
use Rattle.sp_plan.specs.WindowNumbers.{numbered_window, first_of}
use Rattle.sp_emit.specs.Matches.{Binds, IsLine}
use Rattle.sp_listing.specs.Listing.{Entry, IsEntry, IsListing, IsBadLine, IsMatch, head_line, listing_lines, listing_text}
use Rattle.sp_cert.specs.Proofs.{entry_of, last_of, proof_of, proofs}
use Rattle.sp_commands.specs.Alike.{Alike}
use Rattle.sp_commands.proofs.Alike.{windows_same, seq_same, line_same}

module _ (q p : Plan) (alike : Alike q p) where
  -- ---- the proofs of a run

  window_same : (events : List Event) (n : ℕ) → numbered_window q events false n ≡ numbered_window p events false n
  window_same events n = λ i. if n == 0 then None else slice_get (windows_same q p alike events false i) (n - 1)

  proof_same : (events : List Event) (n : ℕ) → proof_of q events n ≡ proof_of p events n
  proof_same events n = λ i.
      entry_of n (first_of (window_same events n i)) (last_of (window_same events n i)) (seq_same q p alike events (n - 1) i).consumed
      (drop (length (seq_same q p alike events (n - 1) i).matches) (seq_same q p alike events n i).matches)

  closed_same : (events : List Event) (ended : Bool) → closed q events ended ≡ closed p events ended
  closed_same events ended = λ i. length (filter (λ (w : Window). w.closed) (windows_same q p alike events ended i))

  pub proofs_same : (events : List Event) (ended : Bool) → proofs q events ended ≡ proofs p events ended
  proofs_same events ended = λ i. map (λ (n : ℕ). proof_same events n i) (range_with_len 1 (closed_same events ended i))

  -- ---- listings

  listing_lines_same : (entries : List Entry) → listing_lines q entries ≡ listing_lines p entries
  listing_lines_same entries = λ i. flat_map (λ (e : Entry). head_line e ∷ map (λ (m : Match). line_same q p alike m i) e.matches) entries

  pub listing_text_same : (entries : List Entry) → listing_text q entries ≡ listing_text p entries
  listing_text_same entries = λ i. flat_map (λ (e : Entry). head_line e ++ flat_map (λ (m : Match). line_same q p alike m i) e.matches) entries

  binds_same : (m : Match) → Binds q m → Binds p m
  binds_same m b = record { names = b.names ∙ ap (λ (es : List Element). flat_map binds es) alike.elements; each = b.each }

  binds_back : (m : Match) → Binds p m → Binds q m
  binds_back m b = record { names = b.names ∙ sym (ap (λ (es : List Element). flat_map binds es) alike.elements); each = b.each }

  entry_same : (e : Entry) → IsEntry q e → IsEntry p e
  entry_same e is = record { numbers = is.numbers; matches = All-weaker (IsMatch q) (IsMatch p) (λ m own. (own.0, binds_same m own.1)) e.matches is.matches }

  is_line_back : (m : Match) (text : List ℕ) → IsLine p m text → IsLine q m text
  is_line_back m text l = record { held = l.held; binds = binds_back m l.binds; is = l.is ∙ sym (line_same q p alike m) }

  pub listing_same : (text : List ℕ) (entries : List Entry) → IsListing q text entries → IsListing p text entries
  listing_same text entries is = record { held = All-weaker (IsEntry q) (IsEntry p) entry_same entries is.held; are = is.are ∙ listing_lines_same entries }

  pub bad_line_same : (text : List ℕ) (number : ℕ) → IsBadLine q text number → IsBadLine p text number
  bad_line_same text number bad = record {
    before = bad.before;
    line = bad.line;
    rest = bad.rest;
    held = All-weaker (IsEntry q) (IsEntry p) entry_same bad.before bad.held;
    are = bad.are ∙ ap (λ (ls : List (List ℕ)). ls ++ bad.line ∷ bad.rest) (listing_lines_same bad.before);
    bad = record { window = bad.bad.window; found = λ m is. bad.bad.found m (is_line_back m bad.line is) };
    at = bad.at ∙ ap (λ (ls : List (List ℕ)). length ls + 1) (listing_lines_same bad.before);
  }
