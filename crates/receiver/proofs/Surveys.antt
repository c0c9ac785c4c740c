-- How a run begins, and what counts answer of one.
use Rattle.std.proofs.Common.{◌≡◌, ℕ, ◌^◌, ◌<◌, cond, not, ◌||◌, ltb, List, [], ◌∷◌, length, None, Ok, Err, Option, sym, refl, ap, ◌∙◌, subst}
use Rattle.theory.specs.Answers.{Answer, first_row, is_none, verdict, answer}
use Rattle.theory.specs.Octets.{AllOctets}
use Rattle.theory.specs.Layouts.{LawfulKind}
use Rattle.theory.specs.Formats.{Part, map_octets, lawful_format}
use Rattle.theory.specs.Pictures.{Picture}
use Rattle.theory.specs.Taking.{open_refusal, opened_map, map_after_opening, missing, count_answer, survey_answer}
use Rattle.theory.specs.Runs.{Start, packets_taken, unnamed_groups}
use Rattle.theory.proofs.RunLaw.{run_law}
use Rattle.theory.proofs.Steps.{opening_allowed, after_open}
use Rattle.receiver.specs.Histories.{Begins, LawHolds, CountsUnnamed, SurveysUnnamed}
use Rattle.receiver.proofs.Checks.{passes, row_of}

-- an opening begins a run
pub begins : (t : Part) (m n : List ℕ) → LawfulKind t.format.kind → t.timestamp < 2 ^ 32 → t.format.ssrc < 2 ^ 32 → AllOctets m → Ok tt ≡ verdict (open_refusal t m)
    → n ≡ map_after_opening t m → Begins t m n
begins t m n law time ssrc octets e same v lawful =
    let none : open_refusal t m ≡ None = passes (open_refusal t m) e in
    let tested = opening_allowed t m none in
    let s : Start = record {
      part = t;
      picture = v;
      map = m;
      lawful_part = record {
        lawful_kind = law;
        format_allowed = tested.0;
        field_allowed = tested.1;
        timestamp_fits = time;
        ssrc_fits = ssrc;
      };
      lawful_picture = lawful;
      map_long = tested.2;
      map_fits = octets;
    } in
    (s, refl, refl, refl, after_open s v n refl (same ∙ ap (λ o. cond (is_none o) (opened_map t m) m) none))

-- a count that the checks refuse, and one that they let through
pub uncounted : (o : Option ℕ) (n x : ℕ) → Err n ≡ verdict o → Err n ≡ answer o x
uncounted o n x e = sym (ap (λ r. answer r x) (row_of o tt n e))

pub counted : (o : Option ℕ) (n x : ℕ) → Ok tt ≡ verdict o → n ≡ x → Ok n ≡ answer o x
counted o n x e s = ap Ok s ∙ sym (ap (λ r. answer r x) (passes o e))

pub law_holds : (t : Part) (v : Picture) (m : List ℕ) → LawHolds t v m
law_holds t v m s es same r = run_law s es v m r

pub counts_unnamed : (t : Part) (m : List ℕ) (a : Answer) → a ≡ count_answer t m → CountsUnnamed t m a
counts_unnamed t m a e s es v same r =
    e ∙ subst (λ p. count_answer p m ≡ Ok (unnamed_groups p (packets_taken es))) same (run_law s es v m r).count_now

pub surveys_unnamed : (t : Part) (v : Picture) (m : List ℕ) (a : Answer) → a ≡ survey_answer t v m → SurveysUnnamed t v m a
surveys_unnamed t v m a e s es same r fits =
    counts_unnamed t m a
    (e ∙ ap (λ f. answer (first_row ((not (lawful_format t.format), 4) ∷ (not f || ltb (length m) (map_octets t), 6) ∷ [])) (missing t m)) fits)
    s es v same r
