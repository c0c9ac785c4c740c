use Rattle.std.proofs.Common.{refl}
use Rattle.theory.proofs.Witness.{key_run, plane_rounded, never_allowed, never_opened}
use Rattle.theory.proofs.worked_cases.Goals as goal

pub returns : goal.returns
returns c = record {
  group_built = refl;
  group_apart = refl;
  group_of_picture = refl;
  key_packet_is = refl;
  key_part_is = refl;
  key_answer = refl;
  key_map = refl;
  key_shown = refl;
  key_run = key_run;
  row_rounded = refl;
  fill_count = refl;
  fill_columns = refl;
  fill_positions = refl;
  no_fill_before = refl;
  plane_rounded = plane_rounded;
  block_allowed = refl;
  block_refused = refl;
  block_opening = λ m. refl;
  never_allowed = never_allowed;
  never_opened = never_opened;
  row_taken = refl;
  row_refused = refl;
  empty_taken = refl;
  empty_map = refl;
  empty_before = refl;
  empty_after = refl;
  first_cut = refl;
  first_length = refl;
  fourth_begins = refl;
  fourth_cut = refl;
  fourth_headers = refl;
  fourth_length = refl;
}
