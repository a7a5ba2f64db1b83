-- What a sink has taken of lines that are put one by one.
use Rattle.std.proofs.Common.{ℕ, List, [], ◌∷◌, ◌++◌, take, sym, subst, append_assoc}
use Rattle.std.proofs.lemmas.List.{append-nil}
use Rattle.ven_io.specs.Sink.{SinkState, Takes, TakesPart}

pub takes_nothing : (now : SinkState) → Takes now now []
takes_nothing now = record { behind = λ earlier taken. subst now.has_taken (sym (append-nil earlier)) taken; no_worse = λ fails. fails }

module _ (before now after : SinkState) (front : List (List ℕ)) (one : Takes before now front) where
  pub takes_then : (pieces : List (List ℕ)) → Takes now after pieces → Takes before after (front ++ pieces)
  takes_then pieces two = record {
    behind = λ earlier taken. subst after.has_taken (append_assoc earlier front pieces) (two.behind (earlier ++ front) (one.behind earlier taken));
    no_worse = λ fails. one.no_worse (two.no_worse fails);
  }

  pub takes_part_then : (piece : List ℕ) → TakesPart now after [] piece → TakesPart before after front piece
  takes_part_then piece two = record { count = two.count; within = two.within; taken = takes_then (take two.count piece ∷ []) two.taken }

  pub takes_then_nothing : Takes now after [] → Takes before after front
  takes_then_nothing two = subst (Takes before after) (append-nil front) (takes_then [] two)
