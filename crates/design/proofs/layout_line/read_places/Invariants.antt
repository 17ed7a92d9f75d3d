use Rattle.std.proofs.Common.{◌<◌, ◌≤◌, length, vec_items}
use Rattle.design.specs.Lines.{unread}
use Rattle.design.proofs.Listing.{Sofar}
use Rattle.design.proofs.layout_line.read_places.Given as goal

abbrev pub invariant-loop-word : goal.invariant-loop-word
invariant-loop-word l =
    (0 < l.rank) × (l.entries ≤ l.rank)
    × Sofar l.rank (unread l.initial.words) (unread l.words) (vec_items l.initial.pool) (vec_items l.pool) l.place l.entries

abbrev pub decreases-loop-word : goal.decreases-loop-word
decreases-loop-word l = length (unread l.words)
