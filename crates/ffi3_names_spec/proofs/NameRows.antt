-- What prototypes call their parameters.
use Rattle.std.proofs.Common.{◌≡◌, [], ◌∷◌, refl}
use Rattle.std.specs.Prelude.{codes}
use Rattle.ffi3_cdecl_spec.specs.Tokens.{signed}
use Rattle.ffi3_names_spec.specs.Scan.{names_in}

read_call : names_in signed (codes "ssize_t read(int fd, void *buf, size_t count);") ≡ codes "fd" ∷ codes "buf" ∷ codes "count" ∷ []
read_call = refl

qsort : names_in signed (codes "void qsort(void *base, size_t n, size_t size, int (*compare)(const void *a, const void *b));") ≡ codes "base" ∷ codes "n" ∷ codes "size" ∷ codes "compare" ∷ []
qsort = refl

signal : names_in signed (codes "void (*signal(int sig, void (*func)(int)))(int);") ≡ codes "sig" ∷ codes "func" ∷ []
signal = refl

pthread_create : names_in signed (codes "int pthread_create(pthread_t *restrict thread, const pthread_attr_t *restrict attr, void *(*start)(void *), void *restrict arg);") ≡ codes "thread" ∷ codes "attr" ∷ codes "start" ∷ codes "arg" ∷ []
pthread_create = refl

without_names : names_in signed (codes "double f(double _Complex, char, unsigned long int, struct s *, int (*)(int x), int [n], ...)") ≡ [] ∷ [] ∷ [] ∷ [] ∷ [] ∷ [] ∷ []
without_names = refl

-- one alone, the first and the last
some_names : names_in signed (codes "int f(unsigned, long const y, float)") ≡ [] ∷ codes "y" ∷ [] ∷ []
some_names = refl

no_parameter : names_in signed (codes "int f(void)") ≡ []
no_parameter = refl

no_list : names_in signed (codes "int f()") ≡ []
no_list = refl

a_pointer_to_void : names_in signed (codes "int f(void *p)") ≡ codes "p" ∷ []
a_pointer_to_void = refl

-- a name of a type before the name of a parameter
types_by_name : names_in signed (codes "FILE *f(FILE *file, size_t count, enum color *color)") ≡ codes "file" ∷ codes "count" ∷ codes "color" ∷ []
types_by_name = refl

members : names_in signed (codes "struct point { float x, *y, z[2]; } g(struct { int a; struct { int b; } c; } p, struct tag { int (*f)(int q); } *r);") ≡ codes "p" ∷ codes "r" ∷ []
members = refl

handed_as_pointers : names_in signed (codes "int f(int a[], char (*b)[3], double m[3][n], int c[static 4], void cb(int i, void (*)(int j)))") ≡ codes "a" ∷ codes "b" ∷ codes "m" ∷ codes "c" ∷ codes "cb" ∷ []
handed_as_pointers = refl

-- behind the dots the types of a call have names too, where it is written so
types_behind_dots : names_in signed (codes "int printf(const char *format, ..., int, double x)") ≡ codes "format" ∷ [] ∷ codes "x" ∷ []
types_behind_dots = refl

in_brackets : names_in signed (codes "long (f)(int (*x), char *(**(y)[2])(int z));") ≡ codes "x" ∷ codes "y" ∷ []
in_brackets = refl

comments : names_in signed (codes "int f(int /* the x */ x, // y\n double y /**/) __attribute__((pure, nonnull (1))) /* z */;") ≡ codes "x" ∷ codes "y" ∷ []
comments = refl
