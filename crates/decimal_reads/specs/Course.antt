-- What the course of an evaluation is seen as.
use Rattle.std.specs.Prelude.{option_map}
use Rattle.decimal_reads.specs.Reads as spec
use Rattle.decimal_reads.specs.Reads.{read_view}
use Rattle.decimal_reads.specs.declared.course.Course.{Course}
use Rattle.decimal_reads.specs.declared.course.Course.TheVariants as course

abbrev pub course_view : Course → spec.Course
course_view course.GoesOn = spec.goes_on
course_view (course.Ends reading) = spec.ends (option_map read_view reading)
