-- The coding tools of 5.5.1.
use Rattle.std.specs.Prelude.{Bool, false, not, ℕ, ◌+◌, ltb}
use Rattle.bits.specs.Codec.{Codec, f, flag, absent, inferred, inferred_flag, choose, via, ◌▷◌}
use Rattle.bits.specs.Elements.{enable_interintra_compound, enable_masked_compound, enable_warped_motion, enable_dual_filter, enable_order_hint, enable_jnt_comp, enable_ref_frame_mvs, seq_force_screen_content_tools, seq_force_integer_mv, order_hint_bits_minus_1, order_hint_bits}
use Rattle.sequence.specs.declared.group.BlockTools.{BlockTools}
use Rattle.sequence.specs.declared.group.HintTools.{HintTools}
use Rattle.sequence.specs.declared.group.Choice.{Choice}
use Rattle.sequence.specs.declared.group.HintBits.{HintBits}
use Rattle.sequence.specs.declared.group.InterTools.{InterTools}
use Rattle.sequence.specs.declared.group.FilterTools.{FilterTools}
use Rattle.sequence.specs.Fields.{block_tools_out, block_tools_in, hint_tools_out, hint_tools_in, choice_out, choice_in, hint_bits_out, hint_bits_in, MotionTable, OrderTable, inter_tools_out, inter_tools_in, filter_tools_out, filter_tools_in}
use Rattle.sequence.specs.Optional.{f_if, flag_if}

-- use_128x128_superblock, enable_filter_intra, enable_intra_edge_filter
unfoldable pub block_tools : Codec BlockTools
block_tools = via block_tools_out block_tools_in (
    flag ▷ λ use-128x128-superblock.
    flag ▷ λ enable-filter-intra.
    flag)

-- what needs order hints
unfoldable pub hint_tools : Bool → Codec HintTools
hint_tools order-hint = via hint_tools_out hint_tools_in (
    flag_if order-hint enable_jnt_comp 0 false ▷ λ _.
    flag_if order-hint enable_ref_frame_mvs 0 false)

-- a tool that is left to each frame (2), or forced on or off; element e
unfoldable pub choice : ℕ → Codec Choice
choice e = via choice_out choice_in (
    flag ▷ λ seq-choose.
    f_if (not seq-choose) 1 e 0 2)

unfoldable pub no_choice : ℕ → Codec Choice
no_choice e = via choice_out choice_in (
    absent false ▷ λ seq-choose.
    inferred e 0 2)

unfoldable pub integer_mv : ℕ → Codec Choice
integer_mv screen = choose (ltb 0 screen) (choice seq_force_integer_mv) (no_choice seq_force_integer_mv)

unfoldable pub hint_bits : Bool → Codec HintBits
hint_bits order-hint = via hint_bits_out hint_bits_in (
    choose order-hint
    (f 3 order_hint_bits_minus_1 0 ▷ λ minus_1. inferred order_hint_bits 0 (minus_1 + 1))
    (absent 0 ▷ λ minus_1. inferred order_hint_bits 0 0))

-- the tools of the full header
unfoldable pub motion_tools : Bool → Codec MotionTable
motion_tools order-hint =
    choice seq_force_screen_content_tools ▷ λ screen.
    integer_mv screen.seq_force ▷ λ _.
    hint_bits order-hint

unfoldable pub order_tools : Codec OrderTable
order_tools =
    flag ▷ λ enable_dual_filter.
    flag ▷ λ order-hint.
    hint_tools order-hint ▷ λ _.
    motion_tools order-hint

unfoldable pub full_tools : Codec InterTools
full_tools = via inter_tools_out inter_tools_in (
    flag ▷ λ enable_interintra_compound.
    flag ▷ λ enable_masked_compound.
    flag ▷ λ enable_warped_motion.
    order_tools)

-- with the reduced header
unfoldable pub reduced_motion_tools : Codec MotionTable
reduced_motion_tools =
    no_choice seq_force_screen_content_tools ▷ λ _.
    no_choice seq_force_integer_mv ▷ λ _.
    hint_bits false

unfoldable pub reduced_order_tools : Codec OrderTable
reduced_order_tools =
    inferred_flag enable_dual_filter 0 false ▷ λ _.
    inferred_flag enable_order_hint 0 false ▷ λ _.
    hint_tools false ▷ λ _.
    reduced_motion_tools

unfoldable pub reduced_tools : Codec InterTools
reduced_tools = via inter_tools_out inter_tools_in (
    inferred_flag enable_interintra_compound 0 false ▷ λ _.
    inferred_flag enable_masked_compound 0 false ▷ λ _.
    inferred_flag enable_warped_motion 0 false ▷ λ _.
    reduced_order_tools)

unfoldable pub inter_tools : Bool → Codec InterTools
inter_tools reduced = choose reduced reduced_tools full_tools

-- enable_superres, enable_cdef, enable_restoration
unfoldable pub filter_tools : Codec FilterTools
filter_tools = via filter_tools_out filter_tools_in (
    flag ▷ λ enable-superres.
    flag ▷ λ enable-cdef.
    flag)
