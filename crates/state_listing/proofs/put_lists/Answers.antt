-- `state_listing::put_lists` meets its contract: part by part. Assumes nothing.
use Rattle.std.proofs.Common.{ℕ, List, ◌++◌, ap, rules}
use Rattle.listing.specs.Ascii.{ascii}
use Rattle.state_listing.specs.Digests.{ordered_events, unordered_events, index_digest, edits_digest}
use Rattle.state_listing.specs.Lines.{list_part, list_parts}
use Rattle.state_listing.proofs.Parts.{join, same-part}
use Rattle.state_listing.proofs.put_lists.Goals as goal

pub returns : goal.returns
unfolding list_parts
returns c =
    let s = c.args.s in
    let waiting : ℕ → List (List ℕ) = list_part (ascii " waiting=") s.ready_len in
    let sounding : ℕ → List (List ℕ) = list_part (ascii " sounding=") s.active_len in
    let finished : ℕ → List (List ℕ) = list_part (ascii " finished=") s.past_len in
    let edits : ℕ → List (List ℕ) = list_part (ascii " edits=") s.edit_map.len in
    let index : ℕ → List (List ℕ) = list_part (ascii " index=") s.active_len in
    let b = sounding (ordered_events s.active s.active_len) in
    let p = finished (ordered_events s.past s.past_len) in
    let e = edits (edits_digest s.edit_map) in
    let i = index (index_digest s.active_map s.active_len) in
    join _ (waiting (unordered_events s.ready s.ready_len)) (b ++ (p ++ (e ++ i))) (same-part _ (ap waiting c.unordered_events-d.ensures) c.put_list-to.ensures)
    (join _ b (p ++ (e ++ i)) (same-part _ (ap sounding c.ordered_events-d.ensures) c.put_list-to-2.ensures)
    (join _ p (e ++ i) (same-part _ (ap finished c.ordered_events-d-2.ensures) c.put_list-to-3.ensures)
    (join _ e i (same-part _ (ap edits c.edits-d.ensures) c.put_list-to-4.ensures) (same-part _ (ap index c.index-d.ensures) c.put_list.ensures))))
