-- 5.5.2 color_config.
use Rattle.std.specs.Prelude.{Bool, true, false, cond, ◌&&◌, not, ℕ, eqb}
use Rattle.bits.specs.Codec.{Codec, flag, inferred, inferred_flag, choose, via, ◌▷◌}
use Rattle.bits.specs.Elements.{twelve_bit, mono_chrome, color_primaries, transfer_characteristics, matrix_coefficients, color_range, subsampling_x, subsampling_y, chroma_sample_position, separate_uv_delta_q, num_planes}
use Rattle.sequence.specs.declared.record.ColorConfig.{ColorConfig}
use Rattle.sequence.specs.declared.group.ColorDescription.{ColorDescription}
use Rattle.sequence.specs.declared.group.Sampling.{Sampling}
use Rattle.sequence.specs.declared.group.Planes.{Planes}
use Rattle.sequence.specs.Fields.{color_description_out, color_description_in, sampling_out, sampling_in, planes_out, planes_in, color_config_out, color_config_in}
use Rattle.sequence.specs.Optional.{f_if, flag_if}

-- a description that is not there is 2, 2, 2: unspecified
unfoldable pub color_values : Bool → Codec (ℕ × (ℕ × ℕ))
color_values present =
    f_if present 8 color_primaries 0 2 ▷ λ _.
    f_if present 8 transfer_characteristics 0 2 ▷ λ _.
    f_if present 8 matrix_coefficients 0 2

unfoldable pub color_description : Codec ColorDescription
color_description = via color_description_out color_description_in (
    flag ▷ λ color-description-present.
    color_values color-description-present)

-- BT.709, sRGB, identity
abbrev pub srgb : ColorDescription → Bool
srgb d = eqb d.color_primaries 1 && (eqb d.transfer_characteristics 13 && eqb d.matrix_coefficients 0)

-- profile 0 is 4:2:0, profile 1 is 4:4:4, profile 2 is 4:2:2 or, at twelve bits, what is coded
unfoldable pub sampling : ℕ → Bool → Codec Sampling
sampling profile twelve = via sampling_out sampling_in (
    flag_if twelve subsampling_x 0 (not (eqb profile 1)) ▷ λ x.
    flag_if (twelve && x) subsampling_y 0 (eqb profile 0) ▷ λ y.
    f_if (x && y) 2 chroma_sample_position 0 0)

unfoldable pub fixed_sampling : Bool → Bool → Codec Sampling
fixed_sampling x y = via sampling_out sampling_in (
    inferred_flag subsampling_x 0 x ▷ λ _.
    inferred_flag subsampling_y 0 y ▷ λ _.
    inferred chroma_sample_position 0 0)

-- color_range, the sampling, separate_uv_delta_q: of one plane, of sRGB, and of any other
unfoldable pub mono_planes : Codec Planes
mono_planes = via planes_out planes_in (
    flag ▷ λ color_range.
    fixed_sampling true true ▷ λ _.
    inferred_flag separate_uv_delta_q 0 false)

-- Difference (docs/DIFFERENCES.md, row 33): players refuse sRGB where the profile has no 4:4:4. As in the crate, that is not checked.
unfoldable pub srgb_planes : Codec Planes
srgb_planes = via planes_out planes_in (
    inferred_flag color_range 0 true ▷ λ _.
    fixed_sampling false false ▷ λ _.
    flag)

unfoldable pub other_planes : ℕ → Bool → Codec Planes
other_planes profile twelve = via planes_out planes_in (
    flag ▷ λ color_range.
    sampling profile twelve ▷ λ _.
    flag)

unfoldable pub planes : ℕ → Bool → Bool → Bool → Codec Planes
planes profile twelve mono is-srgb = choose mono mono_planes (choose is-srgb srgb_planes (other_planes profile twelve))

-- NumPlanes
abbrev pub plane_count : Bool → ℕ
plane_count mono = cond mono 1 3

unfoldable pub color_rest : ℕ → Bool → Bool → Codec (ColorDescription × (Planes × ℕ))
color_rest profile twelve mono =
    color_description ▷ λ description.
    planes profile twelve mono (srgb description) ▷ λ _.
    inferred num_planes 0 (plane_count mono)

unfoldable pub color_config : ℕ → Codec ColorConfig
color_config profile = via color_config_out color_config_in (
    flag ▷ λ high-bitdepth.
    flag_if (eqb profile 2 && high-bitdepth) twelve_bit 0 false ▷ λ twelve.
    flag_if (not (eqb profile 1)) mono_chrome 0 false ▷ λ mono.
    color_rest profile twelve mono)
