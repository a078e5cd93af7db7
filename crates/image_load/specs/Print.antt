-- What the program prints of a fault: the image's number, the fault's number, 1 to 4, and the place that it carries, or 0.
use Rattle.std.specs.Prelude.{ℕ, Option, Some, None}
use Rattle.image_load.specs.declared.fault.LoadFault.{LoadFault}
use Rattle.image_load.specs.declared.fault.LoadFault.TheVariants.{Outside, Overlap, Entry, Memory}

abbrev pub image_of : LoadFault → Option ℕ
image_of (Outside image segment) = Some image
image_of (Overlap image segment other_image other_segment) = Some image
image_of (Entry image) = Some image
image_of Memory = None

abbrev pub number_of : LoadFault → ℕ
number_of (Outside image segment) = 1
number_of (Overlap image segment other_image other_segment) = 2
number_of (Entry image) = 3
number_of Memory = 4

abbrev pub place_of : LoadFault → ℕ
place_of (Outside image segment) = segment
place_of (Overlap image segment other_image other_segment) = segment
place_of (Entry image) = 0
place_of Memory = 0
