-- The elements that a refusal can name, as document 01 numbers them: the names that the tables use.
use Rattle.std.specs.Prelude.{ℕ}

abbrev pub obu_type : ℕ
obu_type = 1

abbrev pub temporal_id : ℕ
temporal_id = 2

abbrev pub spatial_id : ℕ
spatial_id = 3

abbrev pub seq_profile : ℕ
seq_profile = 4

abbrev pub reduced_still_picture_header : ℕ
reduced_still_picture_header = 5

abbrev pub initial_display_delay_present_flag : ℕ
initial_display_delay_present_flag = 6

abbrev pub operating_points_cnt_minus_1 : ℕ
operating_points_cnt_minus_1 = 7

abbrev pub operating_point_idc : ℕ
operating_point_idc = 8

abbrev pub seq_level_idx : ℕ
seq_level_idx = 9

abbrev pub decoder_model_present_for_this_op : ℕ
decoder_model_present_for_this_op = 10

abbrev pub initial_display_delay_present_for_this_op : ℕ
initial_display_delay_present_for_this_op = 11

abbrev pub num_ticks_per_picture_minus_1 : ℕ
num_ticks_per_picture_minus_1 = 12

abbrev pub decoder_model_info_present_flag : ℕ
decoder_model_info_present_flag = 13

abbrev pub buffer_delay_length_minus_1 : ℕ
buffer_delay_length_minus_1 = 14

abbrev pub buffer_removal_time_length_minus_1 : ℕ
buffer_removal_time_length_minus_1 = 15

abbrev pub frame_presentation_time_length_minus_1 : ℕ
frame_presentation_time_length_minus_1 = 16

abbrev pub seq_tier : ℕ
seq_tier = 17

abbrev pub decoder_buffer_delay : ℕ
decoder_buffer_delay = 18

abbrev pub encoder_buffer_delay : ℕ
encoder_buffer_delay = 19

abbrev pub initial_display_delay_minus_1 : ℕ
initial_display_delay_minus_1 = 20

abbrev pub frame_width_bits_minus_1 : ℕ
frame_width_bits_minus_1 = 21

abbrev pub frame_height_bits_minus_1 : ℕ
frame_height_bits_minus_1 = 22

abbrev pub frame_id_numbers_present_flag : ℕ
frame_id_numbers_present_flag = 23

abbrev pub delta_frame_id_length_minus_2 : ℕ
delta_frame_id_length_minus_2 = 24

abbrev pub additional_frame_id_length_minus_1 : ℕ
additional_frame_id_length_minus_1 = 25

abbrev pub enable_interintra_compound : ℕ
enable_interintra_compound = 26

abbrev pub enable_masked_compound : ℕ
enable_masked_compound = 27

abbrev pub enable_warped_motion : ℕ
enable_warped_motion = 28

abbrev pub enable_dual_filter : ℕ
enable_dual_filter = 29

abbrev pub enable_order_hint : ℕ
enable_order_hint = 30

abbrev pub enable_jnt_comp : ℕ
enable_jnt_comp = 31

abbrev pub enable_ref_frame_mvs : ℕ
enable_ref_frame_mvs = 32

abbrev pub seq_force_screen_content_tools : ℕ
seq_force_screen_content_tools = 33

abbrev pub seq_force_integer_mv : ℕ
seq_force_integer_mv = 34

abbrev pub order_hint_bits_minus_1 : ℕ
order_hint_bits_minus_1 = 35

abbrev pub order_hint_bits : ℕ
order_hint_bits = 36

abbrev pub twelve_bit : ℕ
twelve_bit = 37

abbrev pub mono_chrome : ℕ
mono_chrome = 38

abbrev pub color_primaries : ℕ
color_primaries = 39

abbrev pub transfer_characteristics : ℕ
transfer_characteristics = 40

abbrev pub matrix_coefficients : ℕ
matrix_coefficients = 41

abbrev pub color_range : ℕ
color_range = 42

abbrev pub subsampling_x : ℕ
subsampling_x = 43

abbrev pub subsampling_y : ℕ
subsampling_y = 44

abbrev pub chroma_sample_position : ℕ
chroma_sample_position = 45

abbrev pub separate_uv_delta_q : ℕ
separate_uv_delta_q = 46

abbrev pub num_planes : ℕ
num_planes = 47

abbrev pub base_q_idx : ℕ
base_q_idx = 51

abbrev pub delta_q_y_dc : ℕ
delta_q_y_dc = 52

abbrev pub diff_uv_delta : ℕ
diff_uv_delta = 53

abbrev pub delta_q_u_dc : ℕ
delta_q_u_dc = 54

abbrev pub delta_q_u_ac : ℕ
delta_q_u_ac = 55

abbrev pub delta_q_v_dc : ℕ
delta_q_v_dc = 56

abbrev pub delta_q_v_ac : ℕ
delta_q_v_ac = 57

abbrev pub qm_y : ℕ
qm_y = 58

abbrev pub qm_u : ℕ
qm_u = 59

abbrev pub qm_v : ℕ
qm_v = 60

abbrev pub segmentation_update_map : ℕ
segmentation_update_map = 61

abbrev pub segmentation_temporal_update : ℕ
segmentation_temporal_update = 62

abbrev pub segmentation_update_data : ℕ
segmentation_update_data = 63

abbrev pub feature_enabled : ℕ
feature_enabled = 64

abbrev pub feature_data : ℕ
feature_data = 65

abbrev pub loop_filter_level : ℕ
loop_filter_level = 66

abbrev pub loop_filter_ref_deltas : ℕ
loop_filter_ref_deltas = 67

abbrev pub loop_filter_mode_deltas : ℕ
loop_filter_mode_deltas = 68

abbrev pub loop_filter_sharpness : ℕ
loop_filter_sharpness = 69

abbrev pub cdef_bits : ℕ
cdef_bits = 70

abbrev pub cdef_y_pri_strength : ℕ
cdef_y_pri_strength = 71

abbrev pub cdef_y_sec_strength : ℕ
cdef_y_sec_strength = 72

abbrev pub cdef_uv_pri_strength : ℕ
cdef_uv_pri_strength = 73

abbrev pub cdef_uv_sec_strength : ℕ
cdef_uv_sec_strength = 74

abbrev pub cdef_damping : ℕ
cdef_damping = 75

abbrev pub frame_restoration_type : ℕ
frame_restoration_type = 76

abbrev pub uses_lr : ℕ
uses_lr = 77

abbrev pub uses_chroma_lr : ℕ
uses_chroma_lr = 78

abbrev pub lr_unit_shift : ℕ
lr_unit_shift = 79

abbrev pub lr_uv_shift : ℕ
lr_uv_shift = 80
