-- Which version of the library this is.
use Rattle.std.specs.Prelude.{ℕ, ◌+◌, ◌*◌}

abbrev pub version_major : ℕ
version_major = 0

abbrev pub version_minor : ℕ
version_minor = 1

abbrev pub version_patch : ℕ
version_patch = 0

-- as one number, which is larger for a later version: 1.2.3 is 10203 [G6]
abbrev pub version : ℕ
version = version_major * 10000 + version_minor * 100 + version_patch
