-- Every run keeps the law.
use Rattle.std.proofs.Common.{ℕ, List, ap, ◌∙◌}
use Rattle.theory.specs.Answers.{answer, is_none}
use Rattle.theory.specs.Pictures.{Picture}
use Rattle.theory.specs.Taking.{set_count}
use Rattle.theory.specs.Runs.{Event, offer, count, Start, Reached, Law}
use Rattle.theory.proofs.Kept.{shape, length_kept, samples, bits, count_is, octets_kept, refusal_kept, each_answered}
use Rattle.theory.proofs.Unchanged.{unchanged}
use Rattle.theory.proofs.Order.{order}
use Rattle.theory.proofs.Taken.{taken_of_offered, offered_of_taken, other_bits}
use Rattle.theory.proofs.Whole.{whole_clause}

pub run_law : (s : Start) (es : List Event) (v : Picture) (m : List ℕ) → Reached s es v m → Law s es v m
run_law s es v m r = record {
  sizes = record {
    planes = ap (λ x. x.planes) (shape r);
    width = λ p. ap (λ x. x.width p) (shape r);
    height = λ p. ap (λ x. x.height p)
        (shape r);
    depth = ap (λ x. x.depth) (shape r);
  };
  taken = λ q. (offered_of_taken r q, λ h e. taken_of_offered r q e h);
  samples = samples r;
  bits = bits r;
  map_length = length_kept r;
  other_bits = other_bits r;
  answers = λ later earlier q a e. each_answered r later earlier (offer q a) e;
  counts = λ later earlier a e. each_answered r later earlier (count a) e;
  count_now = count_is r;
  refused = λ q row e.
      let now = refusal_kept r q ∙ e in
      let same = unchanged s.part v m q (octets_kept r) (ap is_none now) in
      (ap (λ o. answer o (set_count s.part v m q)) now, same.0, same.1);
  order = order r;
  whole = whole_clause r;
}
