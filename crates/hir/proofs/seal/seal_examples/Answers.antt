use Rattle.std.proofs.Common.{◌≡◌, ℕ, suc, ◌-◌, true, [], ◌∷◌, ◌++◌, get_or, reverse, take, drop, refl, inl, inr, arith}
use Rattle.hir.proofs.Certificates.{Certificate, accepted, linked, refused, tested_all, tested_causes}
use Rattle.hir.proofs.Members.{lacks}
use Rattle.hir.proofs.OneRefusal.{cause_at}
use Rattle.hir.proofs.seal.seal_examples.Goals as goal
use Rattle.hir.specs.Examples.{back_to1, bad_fallthrough, bad_operand, entry_phi, no_blocks, one_side, open_block, parameter_again, reads_itself, refusal, stored_twice, two_bindings, two_entries, used_at_end, entry_loop, good_fallthrough, loop, meeting, same_ways, stored_once, takes_itself, try_binding, unreached_phi}
use Rattle.hir.specs.Script.{Script}
use Rattle.hir.specs.Graph.{along, entry}
use Rattle.hir.specs.Seal.{Fault, FirstCause, Part, causes, further, parts, site_of}

-- the parameter 0 is assigned before each of four blocks; nothing is said of what paths hold
abbrev plain : Certificate
plain = record { assigned = (0 ∷ []) ∷ (0 ∷ []) ∷ (0 ∷ []) ∷ (0 ∷ []) ∷ []; held = [] }

abbrev part_at : Script → ℕ → Part
part_at s j = get_or (parts s) j (further 0)

-- refused for the cause of row h, at part j
refuses : (room : ℕ) (k : Certificate) (s : Script) (h j : ℕ) → linked k s ≡ true → tested_causes room k s (take (h - 1) causes) ≡ true
    → tested_all room k s (cause_at h) [] (take j (parts s)) ≡ true → parts s ≡ take j (parts s) ++ part_at s j ∷ drop (suc j) (parts s)
    → Fault room s (cause_at h) (part_at s j) (reverse (take j (parts s)))
    → FirstCause room s (take (h - 1) causes ++ cause_at h ∷ drop h causes) (refusal (cause_at h) (site_of (part_at s j)))
refuses room k s h j ok above front is f = refused room k s ok (take (h - 1) causes) (cause_at h) (drop h causes) (take j (parts s)) (part_at s j) (drop (suc j) (parts s)) above front is f

pub returns : goal.returns
returns c = record {
  too_little_room = refuses 1 plain same_ways 1 1 refl refl refl refl refl;
  enough_room = accepted 2 plain same_ways refl refl;
  fallthrough_names_nothing = refuses 9 plain bad_fallthrough 4 1 refl refl refl refl refl;
  fallthrough_names_a_block = accepted 9 plain good_fallthrough refl refl;
  operand_names_nothing = refuses 9 plain bad_operand 4 3 refl refl refl refl refl;
  no_block = refuses 0 plain no_blocks 6 1 refl refl refl refl refl;
  no_terminal = refuses 9 plain open_block 6 3 refl refl refl refl refl;
  written_twice = refuses 9 plain stored_twice 7 1 refl refl refl refl refl;
  written_once = accepted 0 plain stored_once refl refl;
  parameter_again_case = refuses 9 plain parameter_again 7 3 refl refl refl refl refl;
  bound_twice = refuses 9 plain two_bindings 7 3 refl refl refl refl refl;
  takes_from_both = accepted 4 plain (meeting ((1, 1) ∷ (2, 2) ∷ [])) refl refl;
  order_is_free = accepted 4 plain (meeting ((2, 2) ∷ (1, 1) ∷ [])) refl refl;
  takes_from_one = refuses 4 plain (meeting ((1, 1) ∷ [])) 8 9 refl refl refl refl refl;
  takes_twice = refuses 4 plain (meeting ((1, 1) ∷ (2, 2) ∷ (1, 1) ∷ [])) 8 9 refl refl refl refl refl;
  takes_from_another = refuses 4 plain (meeting ((1, 1) ∷ (2, 2) ∷ (0, 0) ∷ [])) 8 9 refl refl refl refl refl;
  phi_in_the_entry = refuses 9 plain entry_phi 8 1 refl refl refl refl refl;
  back_to_the_entry = accepted 9 plain entry_loop refl refl;
  not_reached = accepted 9 (record { assigned = (0 ∷ []) ∷ (9 ∷ 8 ∷ []) ∷ []; held = [] }) unreached_phi refl refl;
  avoided = refuses 9 plain back_to1 9 5 refl refl refl refl (0 ∷ [], along entry (inl refl), (1, omega arith, inl refl, lacks 1 (2 ∷ 0 ∷ []) refl));
  never_avoided = accepted 9 (record { assigned = plain.assigned; held = [] ∷ (1 ∷ []) ∷ (1 ∷ 2 ∷ []) ∷ [] }) loop refl refl;
  two_ways_into_a_loop = refuses 9 plain two_entries 9 5 refl refl refl refl (3 ∷ 0 ∷ [], along (along entry (inr (inl refl))) (inl refl), (1, omega arith, inl refl, lacks 1 (2 ∷ 3 ∷ 0 ∷ []) refl));
  assigned_on_one_side = refuses 9 plain one_side 10 8 refl refl refl refl (2 ∷ 0 ∷ [], along (along entry (inr (inl refl))) (inl refl), (1, inl refl, lacks 1 (0 ∷ []) refl));
  reads_itself_case = refuses 9 plain reads_itself 10 1 refl refl refl refl ([], entry, (1, inl refl, lacks 1 (0 ∷ []) refl));
  used_at_the_end = refuses 9 plain used_at_end 10 4 refl refl refl refl (0 ∷ [], along entry (inl refl), (8, inl refl, lacks 8 (0 ∷ []) refl));
  takes_itself_case = accepted 9 (record { assigned = (0 ∷ []) ∷ (0 ∷ []) ∷ (1 ∷ []) ∷ []; held = [] }) takes_itself refl refl;
  bound_by_a_try = accepted 9 (record { assigned = (0 ∷ []) ∷ (4 ∷ []) ∷ (4 ∷ []) ∷ (0 ∷ []) ∷ []; held = [] }) try_binding refl refl;
  walk_order = refl;
  listed_once = refl;
  set_aside = refl;
}
