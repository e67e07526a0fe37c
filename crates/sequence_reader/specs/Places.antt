-- Where each group of the record begins among its numbers. Only contracts of functions inside cite this.
use Rattle.std.specs.Prelude.{ℕ}

abbrev pub sequence : ℕ
sequence = 5

abbrev pub general : ℕ
general = 8

abbrev pub timing_info : ℕ
timing_info = 9

abbrev pub model_present : ℕ
model_present = 13

abbrev pub decoder_model_info : ℕ
decoder_model_info = 14

abbrev pub model_rest : ℕ
model_rest = 15

abbrev pub points : ℕ
points = 18

abbrev pub operating_points : ℕ
operating_points = 20

abbrev pub frame_size : ℕ
frame_size = 308

abbrev pub max_frame_size : ℕ
max_frame_size = 310

abbrev pub frame_ids : ℕ
frame_ids = 312

abbrev pub tools : ℕ
tools = 315

abbrev pub inter_tools : ℕ
inter_tools = 318

abbrev pub order_tools : ℕ
order_tools = 321

abbrev pub hint_tools : ℕ
hint_tools = 323

abbrev pub motion_tools : ℕ
motion_tools = 325

abbrev pub hint_bits : ℕ
hint_bits = 329

abbrev pub filter_tools : ℕ
filter_tools = 331

abbrev pub color_config : ℕ
color_config = 334

abbrev pub color_description : ℕ
color_description = 337

abbrev pub planes : ℕ
planes = 341

abbrev pub sampling : ℕ
sampling = 342

abbrev pub num_planes : ℕ
num_planes = 346

abbrev pub film_grain : ℕ
film_grain = 347

-- how many there are
abbrev pub numbers : ℕ
numbers = 348
